use Rattle.std.proofs.Common.{◌+◌, ◌++◌, ◌∷◌, [], List, arith, map, rules, subst, sym}
use Rattle.std.proofs.lemmas.List.{with_items_is}
use Rattle.board.specs.Dealing.{AreDealt}
use Rattle.board.proofs.Dealing.{AreGiven, all_given, is_none, none_given, one_given}
use Rattle.board.proofs.viewers.Viewers.deal.Goals as goal
use Rattle.board.proofs.viewers.Viewers.deal.Goals.{in-Some+in_ok-push, in_default}

pub loop-own-init : goal.loop-own-init
loop-own-init c = λ all one dealt are.
    subst (λ (items : List _). AreGiven (λ own. own.items) all one items 0 c.args.viewers.items) (sym c.deref_mut-own-items.ensures.value)
    (none_given (λ own. own.items) all one c.args.self.now.by_worker.items c.args.viewers.items dealt are)

pub loop-own-preserved : goal.loop-own-preserved
loop-own-preserved c = λ all one dealt are.
    let so_far = c.loop-own.invariant all one dealt are in
    elim c.match-pop.branch [
      | in-Some+in_ok-push w ↦
          subst (λ (items : List _). AreGiven (λ own. own.items) all one items (c.loop-own.own-index + 1) c.pop.new.self.items) (sym w.own-items-is)
          (one_given (λ own. own.items) all one c.loop-own.own-items c.loop-own.own-index c.loop-own.viewers.items
          c.pop.new.self.items w.push.new.self c.own-item.result
          w.in-Some.viewer so_far (omega (arith, c.loop-own-test.true, c.loop-own.auto.own-items)) (search rules) (search rules))
      | in_default w ↦ absurd (is_none _ w.in_default.not-Some
          (c.pop.ensures.variant.1 (omega (arith, so_far.enough, c.loop-own-test.true, c.loop-own.auto.own-items, c.loop-own.viewers.ok.0))))
    ]

pub returns-clause-dealt : goal.returns-clause-dealt
returns-clause-dealt c = λ all one dealt are.
    subst (λ (items : List _). AreDealt (all ++ one ∷ []) (map (λ own. own.items) items))
    (sym (with_items_is c.args.self.now.by_worker c.loop-own.own-items
    (omega (arith, c.loop-own.auto.own-items, c.deref_mut-own-items.ensures.len, c.args.self.now.by_worker.ok.0))))
    (all_given (λ own. own.items) all one c.loop-own.own-items c.loop-own.own-index c.loop-own.viewers.items (c.loop-own.invariant all one dealt are)
    (omega (arith, c.loop-own-test.false, c.loop-own.auto.own-items)))
