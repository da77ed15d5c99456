use Rattle.std.proofs.Common.{◌≡◌, ◌/◌, map, length, IfOk, w16, vec_items, refl, rules}
use Rattle.std.specs.Int.{from_le_bytes}
use Rattle.std.specs.Simd.{first_chunks}
use Rattle.records.proofs.Words.{words_by}
use Rattle.records.proofs.field.read_words.Goals as goal

pub returns : goal.returns
returns c =
    let b = c.args.bytes.now in
    let read : IfOk c.collect.result (λ v. vec_items v ≡ map (from_le_bytes w16) (first_chunks 2 (length b / 2) b)) = search rules in
    let e = words_by (length b / 2) b refl in
    rw (← e) read
