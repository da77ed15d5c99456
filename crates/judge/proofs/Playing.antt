-- One more call at the end of a log.
use Rattle.std.proofs.Common.{◌≡◌, ℕ, suc, ◌+◌, ◌<◌, ◌≤◌, List, [], ◌∷◌, ◌++◌, length, get_or, take, refl, ap, subst, arith}
use Rattle.std.proofs.lemmas.List.{take_more, take_all, length-take-le}
use Rattle.pattern.specs.declared.Answer.{Answer}
use Rattle.pattern.specs.Meaning.{Meaning}
use Rattle.pattern.specs.Call.{Called, Exchange, Calls, none, more}
use Rattle.judge.specs.declared.calls.Call.{Call}
use Rattle.judge.specs.Play.{call_of, log_of}

calls_push : {S : Type 0} (m : Meaning S) {s t u : S} {log : List Exchange} (x : Exchange) → Calls m s log t → Called m t x.call x.answer u → Calls m s (log ++ x ∷ []) u
calls_push m x none w = more w none
calls_push m x (more v vs) w = more v (calls_push m x vs w)

log_push : (calls : List Call) (answers : List Answer) (c : Call) (a : Answer) → length answers ≡ length calls → log_of (calls ++ c ∷ []) (answers ++ a ∷ []) ≡ log_of calls answers ++ record { call = call_of c; answer = a } ∷ []
log_push [] [] c a e = refl
log_push [] (b ∷ bs) c a e = absurd (let h : suc (length bs) ≡ 0 = e in omega arith)
log_push (d ∷ ds) [] c a e = absurd (let h : 0 ≡ suc (length ds) = e in omega arith)
log_push (d ∷ ds) (b ∷ bs) c a e =
    let h : suc (length bs) ≡ suc (length ds) = e in
    ap (λ (log : List Exchange). record { call = call_of d; answer = b } ∷ log) (log_push ds bs c a (omega arith))

-- The calls below an index are made; so is the one at the index.
pub played_more : {S B : Type 0} (meaning : B → Meaning S) (b b' : B) (calls : List Call) (answers : List Answer) (i : ℕ) (d : Call) (a : Answer) (s t u : S) → b' ≡ b → i < length calls → length answers ≡ i → Calls (meaning b) s (log_of (take i calls) answers) t → Called (meaning b') t (call_of (get_or calls i d)) a u → Calls (meaning b) s (log_of (take (i + 1) calls) (answers ++ a ∷ [])) u
played_more {S} {B} meaning b b' calls answers i d a s t u e h l w v =
    let long : length answers ≡ length (take i calls) = omega (arith, length-take-le i calls (omega arith)) in
    rw (take_more calls i d h, log_push (take i calls) answers (get_or calls i d) a long)
    (calls_push (meaning b) (record { call = call_of (get_or calls i d); answer = a }) w (subst (λ (x : B). Called (meaning x) t (call_of (get_or calls i d)) a u) e v))

-- All calls are made.
pub played_all : {S : Type 0} (m : Meaning S) (calls : List Call) (answers : List Answer) (i : ℕ) (s t : S) → length calls ≤ i → Calls m s (log_of (take i calls) answers) t → Calls m s (log_of calls answers) t
played_all m calls answers i s t h w = rw take_all at w
