use Rattle.std.specs.List.{list_any}
use Rattle.std.proofs.Common.{◌≡◌, true, false, ◌||◌, List, [], ◌∷◌, refl, ap, ◌∙◌, subst}
use Rattle.units.specs.Keys.{Bytes, same_key, has_key}
use Rattle.units.proofs.KeyLaws.{same_key_comm}
use Rattle.session.specs.declared.answered.Answered.{Answered}
use Rattle.session.specs.Sessions.{was_taken}
use Rattle.session.specs.Shown.{Session, taken_keys}
use Rattle.session.proofs.Kept.{awaited_apart}
use Rattle.session.proofs.tx.Tx+Open.awaits_only_new.Goals as goal

taken_has : (taken : List Answered) (k : Bytes) → list_any (λ a. same_key a.key k) taken ≡ has_key (taken_keys taken) k
taken_has [] k = refl
taken_has (a ∷ others) k = ap (λ b. b || list_any (λ x. same_key x.key k) others) (same_key_comm a.key k) ∙ ap (λ b. same_key k a.key || b) (taken_has others k)

pub returns : goal.returns
returns c =
    let i = c.self.inside in
    subst (λ (t : Session). (key : Bytes) → has_key t.client.awaited key ≡ true → was_taken t.client key ≡ false) c.self.view_is
    (λ key is. taken_has i.taken.items key ∙ awaited_apart (taken_keys i.taken.items) i.awaited.items key c.self.invariant.apart is)
