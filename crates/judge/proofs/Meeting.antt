-- What a walk meets at an open case, by the entry that is read there.
use Rattle.std.proofs.Common.{◌≡◌, ℕ, ◌+◌, ◌<◌, ◌≤◌, List, [], ◌∷◌, length, get_or, drop, Ok, Err, vec_items, sym, ap, ◌∙◌}
use Rattle.std.proofs.lemmas.List.{drop_all, drop_more, get_or-map, length-map}
use Rattle.pattern.specs.declared.Case.{Case}
use Rattle.pattern.specs.declared.Covering.TheVariants.{Malformed, Covers, DoesNotCover}
use Rattle.pattern.specs.Meaning.{Meaning}
use Rattle.judge.specs.declared.table.Entry.{Entry}
use Rattle.judge.specs.declared.table.TableGround.TheVariants.{NoEntry, NoSuchRow, BadMatching, NotCovered}
use Rattle.judge.specs.Acceptance.{Claim, claim_of, claims, Met, no_entry, no_such_row, bad_matching, not_covered}

no_claim : Claim
no_claim = record { row = 0; matching = [] }

module _ {S : Type 0} (m : Meaning S) (c : Case) (entries : List Entry) (n : ℕ) where
  -- No entry is left.
  pub met_none : length entries ≤ n → Met m c (claims entries) n (Err NoEntry)
  met_none h cs = let past : length (claims entries) ≤ n = simp length-map h in rw (drop_all n (claims entries) past) no_entry

  module _ (x : Entry) (here : n < length entries) (read : x ≡ get_or entries n x) where
    pub claim_here : (d : Claim) → get_or (claims entries) n d ≡ claim_of x
    claim_here d = get_or-map claim_of entries n x d here ∙ ap claim_of (sym read)

    pub claims_long : n < length (claims entries)
    claims_long = simp length-map here

    pub claims_from : drop n (claims entries) ≡ claim_of x ∷ drop (n + 1) (claims entries)
    claims_from = drop_more (claims entries) n (claim_of x) claims_long ∙ ap (λ (e : Claim). e ∷ drop (n + 1) (claims entries)) (claim_here (claim_of x))

    -- The entry names no row.
    pub met_no_row : m.rows ≤ x.row → Met m c (claims entries) n (Err NoSuchRow)
    met_no_row h cs = rw claims_from (no_such_row h)

    -- Its matching is malformed.
    pub met_malformed : x.row < m.rows → m.covering c x.row (vec_items x.matching) ≡ Malformed → Met m c (claims entries) n (Err BadMatching)
    met_malformed h e cs = rw claims_from (bad_matching h e)

    -- It does not cover.
    pub met_uncovered : x.row < m.rows → m.covering c x.row (vec_items x.matching) ≡ DoesNotCover → Met m c (claims entries) n (Err NotCovered)
    met_uncovered h e cs = rw claims_from (not_covered h e)

    -- It covers.
    pub met_right : x.row < m.rows → m.covering c x.row (vec_items x.matching) ≡ Covers → Met m c (claims entries) n (Ok tt)
    met_right h e = (claims_long, rw (claim_here (record { row = 0; matching = [] })) (h, e))
