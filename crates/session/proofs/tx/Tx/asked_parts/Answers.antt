use Rattle.std.proofs.Common.{◌≡◌, [], ◌++◌, map, ap, ◌∙◌, subst}
use Rattle.std.specs.Prelude.{IfNone, IfSome, nat_lt}
use Rattle.units.specs.Keys.{shard_of}
use Rattle.units.specs.Lists.{once, sorted}
use Rattle.session.specs.declared.answered.Answered.{Answered}
use Rattle.session.specs.Sessions.{asked_shards}
use Rattle.session.specs.Shown.{Session}
use Rattle.session.proofs.Loops.{asked_in}
use Rattle.session.proofs.tx.Tx.asked_parts.Goals as goal

pub returns-clause-none : goal.returns-clause-none
returns-clause-none g c =
    let i = c.self.inside in
    let s = c.args.self.now in
    let asked : sorted nat_lt (once c.as_slice-4.result.now) ≡ asked_shards s.splits s.client =
    ap (λ l. sorted nat_lt (once l)) (c.as_slice-4.ensures.value
    ∙ asked_in (shard_of i.splits.now) (map (λ (a : Answered). a.shard) i.taken.items) i.doom i.awaited.items c.as_slice-2.result.now _ _ _
    (c.in_ok-push_taken.ensures.same ∙ (λ j. c.new-shards.ensures.items j ++ map (λ (a : Answered). a.shard) (c.as_slice.ensures.value j)))
    c.as_slice-2.ensures c.in_ok-push_asked.ensures.same
    (c.in_ok-push_asked-2.ensures.same ∙ (λ j. c.push_asked.new.shards.items ++ map (shard_of i.splits.now) (c.as_slice-3.ensures.value j))))
    ∙ ap (λ (t : Session). asked_shards t.splits t.client) c.self.view_is in
    subst (λ ns. IfNone c.of.result (ns ≡ [])) asked c.of.ensures.none

pub returns-clause-some : goal.returns-clause-some
returns-clause-some g c =
    let i = c.self.inside in
    let s = c.args.self.now in
    let asked : sorted nat_lt (once c.as_slice-4.result.now) ≡ asked_shards s.splits s.client =
    ap (λ l. sorted nat_lt (once l)) (c.as_slice-4.ensures.value
    ∙ asked_in (shard_of i.splits.now) (map (λ (a : Answered). a.shard) i.taken.items) i.doom i.awaited.items c.as_slice-2.result.now _ _ _
    (c.in_ok-push_taken.ensures.same ∙ (λ j. c.new-shards.ensures.items j ++ map (λ (a : Answered). a.shard) (c.as_slice.ensures.value j)))
    c.as_slice-2.ensures c.in_ok-push_asked.ensures.same
    (c.in_ok-push_asked-2.ensures.same ∙ (λ j. c.push_asked.new.shards.items ++ map (shard_of i.splits.now) (c.as_slice-3.ensures.value j))))
    ∙ ap (λ (t : Session). asked_shards t.splits t.client) c.self.view_is in
    subst (λ told. IfSome c.of.result (λ ns. ns ≡ told)) asked c.of.ensures.some
