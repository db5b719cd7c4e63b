use Rattle.std.proofs.Common.{◌≡◌, ◌∙◌, ◌-◌, ◌≤◌, ℕ, List, [], ◌∷◌, length, get_or, take, drop, sym, ap, subst, arith}
use Rattle.std.proofs.lemmas.List.{take_all}
use Rattle.spelling.specs.Gives.{Gives}
use Rattle.spelling.specs.Reading.{record_at}
use Rattle.spelling.proofs.reading.record_of.Goals as goal

first_and_rest : (bytes : List ℕ) → 1 ≤ length bytes → get_or bytes 0 0 ∷ take (length bytes - 1) (drop 1 bytes) ≡ bytes
first_and_rest [] some = absurd (omega arith)
first_and_rest (b ∷ bytes) some = ap (λ l. b ∷ l) (take_all (length (b ∷ bytes) - 1) bytes (omega arith))

of_kind : (kind : ℕ) (bytes : List ℕ) → 1 ≤ length bytes → get_or bytes 0 0 ≡ kind → record_at (kind ∷ take (length bytes - 1) (drop 1 bytes)) ≡ record_at bytes
of_kind kind bytes some is = ap (λ k. record_at (k ∷ take (length bytes - 1) (drop 1 bytes))) (sym is) ∙ ap record_at (first_and_rest bytes some)

pub returns-in-3 : goal.returns-in-3
unfolding record_at
returns-in-3 c =
    subst (Gives _ c.prepare_of.result) (of_kind 3 c.args.bytes.now c.in-len1-up.len_at_least c.in-3.is) c.prepare_of.ensures

pub returns-in-4 : goal.returns-in-4
unfolding record_at
returns-in-4 c =
    subst (Gives _ c.commit_of.result) (of_kind 4 c.args.bytes.now c.in-len1-up.len_at_least c.in-4.is) c.commit_of.ensures

pub returns-in-9 : goal.returns-in-9
unfolding record_at
returns-in-9 c =
    subst (Gives _ c.version_of.result) (of_kind 9 c.args.bytes.now c.in-len1-up.len_at_least c.in-9.is) c.version_of.ensures

pub returns-in-Some : goal.returns-in-Some
returns-in-Some c = sym (ap record_at (first_and_rest c.args.bytes.now c.in-len1-up.len_at_least)) ∙ c.in-Some.ensures

pub returns-in-None : goal.returns-in-None
returns-in-None c = sym (ap record_at (first_and_rest c.args.bytes.now c.in-len1-up.len_at_least)) ∙ c.in-None.ensures
