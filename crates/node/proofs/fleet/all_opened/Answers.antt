use Rattle.std.proofs.Common.{◌≡◌, ◌<◌, ◌++◌, List, length, Some, refl, rules, ap, sym, subst, ◌∙◌, arith}
use Rattle.std.specs.List.{AllZip}
use Rattle.board.specs.Dealing.{lists_of}
use Rattle.node.specs.Dealt.{HasViewers}
use Rattle.node.proofs.Dealt.{more_dealt, none_dealt}
use Rattle.node.proofs.Lists.{all_passed, is_before_end, passed}
use Rattle.node.proofs.Together.{all_passed_over, none_opened, one_opened}
use Rattle.node.proofs.fleet.all_opened.Goals as goal

pub loop-one-init : goal.loop-one-init
loop-one-init g c =
    record {
      viewers = refl;
      dealt = none_dealt g.row.N.Denot (length c.args.viewers.by_worker.items) (lists_of c.args.viewers);
      passed = search rules;
      opened = none_opened _ _ _ (ap length c.new.ensures.items) c.first.ensures c.zero.ensures;
    }

pub loop-one-preserved : goal.loop-one-preserved
loop-one-preserved g c =
    let was = c.loop-one.invariant in
    record {
      viewers = c.add.ensures.viewers ∙ was.viewers;
      dealt =
          more_dealt c.loop-one.yielded c.in-Some.one (length c.args.viewers.by_worker.items) (length c.loop-one.opened.viewers.by_worker.items)
          (lists_of c.args.viewers) (lists_of c.loop-one.opened.viewers) (lists_of c.add.new.self.viewers) was.viewers was.dealt c.in_default.ensures.dealt;
      passed = passed c.loop-one.yielded _ c.in-Some.one _ _ was.passed c.in-Some.ensures.steps.0;
      opened = one_opened c.loop-one.yielded c.in-Some.one _ _ _ _ _ _ was.opened c.in_default.ensures.nodes (c.in_default.ensures.made refl)
          (c.in_default.ensures.epoch refl) (c.in_default.ensures.last refl);
    }

pub returns-in-Err-clause-first : goal.returns-in-Err-clause-first
returns-in-Err-clause-first g c =
    let was = c.loop-one.invariant in
    let before = c.loop-one.yielded in
    let here = is_before_end before _ c.in-Some.one _ _ was.passed c.in-Some.ensures.steps.0 in
    let nodes : c.len.result ≡ length before = omega (arith, c.len.ensures, c.loop-one.opened.nodes.ok.0, was.opened.nodes) in
    let fits : c.len.result < 16 = omega (arith, here, nodes, c.requires) in
    record {
      before = before;
      one = c.in-Some.one;
      behind = _;
      whole = sym was.passed ∙ ap (λ l. before ++ l) c.in-Some.ensures.steps.0;
      made = was.opened.made;
      place = c.shard_at-shard.ensures fits ∙ ap Some nodes;
      cause = c.in-Err.ensures.refused;
    }

pub returns-clause-dealt : goal.returns-clause-dealt
returns-clause-dealt g c = λ all pairs none.
    let was = c.loop-one.invariant in
    let rest = c.loop-one.one-iterator.rest in
    let empty : length rest.items ≡ 0 = omega (arith, rest.ok.0, c.in-None.ensures.steps.0) in
    was.dealt all
    (subst (λ (them : List _). AllZip (HasViewers (length c.args.viewers.by_worker.items)) them all)
    (sym (all_passed c.loop-one.yielded rest.items c.args.made.items was.passed empty)) pairs) none

pub returns-clause-opened : goal.returns-clause-opened
returns-clause-opened g c =
    let was = c.loop-one.invariant in
    let rest = c.loop-one.one-iterator.rest in
    let none : length rest.items ≡ 0 = omega (arith, rest.ok.0, c.in-None.ensures.steps.0) in
    all_passed_over c.args.made.items c.loop-one.yielded rest.items _ _ _ was.passed none was.opened
