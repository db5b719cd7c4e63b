use Rattle.std.proofs.Common.{◌≡◌, ◌<◌, ◌∙◌, ap, sym, length, arith}
use Rattle.std.proofs.lemmas.Slice.Zip.{AllZip-long}
use Rattle.std.proofs.Common.{ℕ, subst}
use Rattle.std.specs.List.{AllZip}
use Rattle.board.specs.Dealing.{lists_of}
use Rattle.node.specs.Dealt.{HasViewers}
use Rattle.node.proofs.Dealt.{dealt_over}
use Rattle.node.proofs.Together.{as_many, first_over, last_over, run_over}
use Rattle.node.proofs.Viewers.{by_both}
use Rattle.node.proofs.Outcomes.{on_err, on_ok}
use Rattle.node.proofs.Refusals.{not_made}
use Rattle.node.proofs.fleet.open_counted.Goals as goal

pub all_opened-requires : goal.all_opened-requires
all_opened-requires g c =
    let long = AllZip-long _ c.in_ok-told.told.items c.in-Ok-open_nodes.made.items c.in-Ok-open_nodes.ensures in
    omega (arith, long, c.in_ok-told.ensures.few)

pub returns-in-Ok-open_nodes-clause-nodes : goal.returns-in-Ok-open_nodes-clause-nodes
returns-in-Ok-open_nodes-clause-nodes g c =
    let told = c.in_ok-told.told.items in
    on_ok _ _ c.all_opened.result
    (λ opened is. is.nodes ∙ AllZip-long _ told c.in-Ok-open_nodes.made.items c.in-Ok-open_nodes.ensures ∙ sym (as_many told)
    ∙ ap length c.in_ok-told.ensures.disks)
    c.all_opened.ensures.opened

pub returns-in-Ok-open_nodes-clause-dealt : goal.returns-in-Ok-open_nodes-clause-dealt
returns-in-Ok-open_nodes-clause-dealt g c =
    let made = c.in-Ok-open_nodes.made.items in
    by_both c.all_opened.result _ _ _
    (λ opened is dealt. dealt_over _ _ _ _ _ _ _ c.args.workers c.args.splits.now c.args.stride c.in_ok-told.told.items c.args.disks.items made
    (lists_of opened.viewers) c.in-Ok-open_nodes.ensures c.in_ok-told.ensures.disks c.in_ok-told.ensures.setups is.made
    (λ vs pairs. dealt vs (subst (λ (k : ℕ). AllZip (HasViewers k) made vs) (sym c.in-Ok.ensures.viewers) pairs) c.in-Ok.ensures.empty))
    c.all_opened.ensures.opened c.all_opened.ensures.dealt

pub returns-in-Ok-open_nodes-clause-run : goal.returns-in-Ok-open_nodes-clause-run
returns-in-Ok-open_nodes-clause-run g c =
    let told = c.in_ok-told.told.items in
    let many = c.requires in
    let long : length told ≡ length c.args.disks.items = sym (as_many told) ∙ ap length c.in_ok-told.ensures.disks in
    let some : 0 < length told = omega (arith, many, long) in
    on_ok _ _ c.all_opened.result
    (λ opened is. run_over _ _ _ _ _ _ _ _ told c.args.disks.items c.in-Ok-open_nodes.made.items _ _ _ c.in-Ok-open_nodes.ensures c.in_ok-told.ensures.disks
    some is)
    c.all_opened.ensures.opened

pub returns-in-Ok-open_nodes-clause-last : goal.returns-in-Ok-open_nodes-clause-last
returns-in-Ok-open_nodes-clause-last g c =
    on_ok _ _ c.all_opened.result
    (λ opened is. last_over _ _ _ _ _ _ _ _ c.in_ok-told.told.items c.args.disks.items c.in-Ok-open_nodes.made.items _ _ _ c.in-Ok-open_nodes.ensures
    c.in_ok-told.ensures.disks is)
    c.all_opened.ensures.opened

pub returns-in-Ok-open_nodes-clause-first : goal.returns-in-Ok-open_nodes-clause-first
returns-in-Ok-open_nodes-clause-first g c = λ some few.
    on_err _ _ c.all_opened.result
    (λ unopened is. first_over _ _ _ _ _ _ _ _ c.args.splits.now c.args.stride c.in_ok-told.told.items c.args.disks.items c.in-Ok-open_nodes.made.items unopened some few
    c.in-Ok-open_nodes.ensures c.in_ok-told.ensures.disks c.in_ok-told.ensures.setups is)
    c.all_opened.ensures.first

pub returns-in-Ok-open_nodes-clause-unmade : goal.returns-in-Ok-open_nodes-clause-unmade
returns-in-Ok-open_nodes-clause-unmade g c = λ some few.
    on_err _ _ c.all_opened.result
    (λ unopened is. not_made _ _ c.args.splits.now c.args.stride c.args.disks.items unopened
    (first_over _ _ _ _ _ _ _ _ c.args.splits.now c.args.stride c.in_ok-told.told.items c.args.disks.items c.in-Ok-open_nodes.made.items unopened some few
    c.in-Ok-open_nodes.ensures c.in_ok-told.ensures.disks c.in_ok-told.ensures.setups is))
    c.all_opened.ensures.first
