use Rattle.std.proofs.Common.{◌≡◌, IfOk, Some, slice_get, take, drop, refl, sym, ap, ◌∙◌, subst}
use Rattle.std.proofs.lemmas.Option.{slice_get_past, slice_get_read}
use Rattle.shard.specs.Core.{seen}
use Rattle.lives.specs.Lives.{LivesAs}
use Rattle.lives.specs.Looks.{look_at}
use Rattle.lives.specs.Shows.{look_by}
use Rattle.lives.specs.Spots.{AreSpots}
use Rattle.lives.proofs.Showing.{looked, looked_at, looked_at_none, looked_down}
use Rattle.lives.proofs.run_shard.RunShard.look.Goals as goal

pub returns-in-Some-get-clause-shown : goal.returns-in-Some-get-clause-shown
returns-in-Some-get-clause-shown c setup s h here =
    let r = c.args.self.now in
    let n = c.in-Some.number in
    let v = c.in-Some-get.view.now in
    let found = c.in-Some-get.ensures.lookup in
    let all = c.deref-in-Some-get.ensures.value in
    let there : slice_get r.views.items n ≡ Some v =
    ap (λ vs. slice_get vs n) (sym c.deref.ensures.value) ∙ slice_get_read c.deref.result.now _ n v refl found.3.0 found.1 in
    subst (λ x. IfOk c.look.result (λ reply. reply ≡ x))
    (looked_at setup r.installs.items r.views.items s.views n v c.args.is_here c.args.key.now c.args.at h.views there here
    ∙ ap (λ o. look_by setup s o c.args.key.now c.args.at) (sym c.in-Some.is))
    (subst (λ is. IfOk c.look.result (λ reply. reply ≡ look_at c.args.is_here (take v.count (drop v.from is)) v.horizon v.safe c.args.key.now c.args.at)) all
    (c.look.ensures.shown (subst (λ is. AreSpots is r.spots.entries) (sym all) h.spots)))

pub returns-in-None-get-clause-shown : goal.returns-in-None-get-clause-shown
returns-in-None-get-clause-shown c setup s h here =
    let r = c.args.self.now in
    let n = c.in-Some.number in
    looked_at_none setup r.installs.items r.views.items s.views n c.args.key.now c.args.at h.views
    (ap (λ vs. slice_get vs n) (sym c.deref.ensures.value) ∙ slice_get_past c.deref.result.now n c.in-None-get.ensures.lookup.3)
    ∙ ap (λ o. look_by setup s o c.args.key.now c.args.at) (sym c.in-Some.is)

pub returns-in-Up-clause-shown : goal.returns-in-Up-clause-shown
returns-in-Up-clause-shown c setup s h here =
    let k = c.args.key.now in
    let at = c.args.at in
    subst (λ x. IfOk c.look_at_core.result (λ reply. reply ≡ x))
    (looked setup s (seen c.in-Up.core) k at (subst (LivesAs setup s) c.in-Up.is h.lives) ∙ ap (λ o. look_by setup s o k at) (sym c.in-None.is))
    c.look_at_core.ensures.shown

pub returns-in-Down-clause-shown : goal.returns-in-Down-clause-shown
returns-in-Down-clause-shown c setup s h here =
    looked_down setup s c.in-Down.field-0 c.args.key.now c.args.at (subst (LivesAs setup s) c.in-Down.is h.lives)
    ∙ ap (λ o. look_by setup s o c.args.key.now c.args.at) (sym c.in-None.is)
