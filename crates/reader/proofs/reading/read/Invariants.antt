use Rattle.std.proofs.Common.{length}
use Rattle.drafting.specs.Drafted.{progress_of}
use Rattle.reader.proofs.InForm.{Reading}
use Rattle.reader.proofs.reading.read.Given as goal

abbrev pub invariant-records : goal.invariant-records
invariant-records l = Reading l.fn.books l.bytes l.rest l.place (progress_of l.draft)

abbrev pub decreases-records : goal.decreases-records
decreases-records l = length l.rest
