-- What a result was before its error was mapped.
use Rattle.std.proofs.Common.{◌≡◌, Ok, Err, Result, MatchResult, is_ok}

pub ok_before : {X E D : Type 0} (Q : E → Type 0) (r : Result X E) (s : Result X D) (x : X) → s ≡ Ok x → is_ok s ≡ is_ok r → MatchResult r (λ y. s ≡ Ok y) Q → r ≡ Ok x
ok_before Q (Ok y) s x e v h = cc
ok_before Q (Err d) s x e v h = cc

pub err_before : {X E D P : Type 0} (Q : X → Type 0) (R : E → Type 0) (r : Result X E) (s : Result X D) (d : D) → s ≡ Err d → is_ok s ≡ is_ok r → MatchResult r Q (λ e. R e × P) → P
err_before Q R (Ok x) s d e v h = cc
err_before Q R (Err _) s d e v h = h.1
