use Rattle.std.proofs.Common.{◌≡◌, List, Option, sym, ap, subst, ◌∙◌}
use Rattle.std.specs.Option.{option_copied}
use Rattle.units.specs.Keys.{Bytes}
use Rattle.store.specs.Ranges.{IsShardEnd, IsListing, IsListedBy}
use Rattle.store.proofs.Across.{across, copied_either, either, is_either}
use Rattle.store.proofs.ranges.page_of.Goals as goal

pub returns-clause-listed : goal.returns-clause-listed
returns-clause-listed g c =
    let from = c.args.from.now in
    let to = option_copied c.args.to in
    let split = option_copied c.split_after-split.result in
    let next = c.in_ok-page.page.next in
    let after = c.listed.new.viewer in
    let keys = c.in_ok-page.page.keys.items in
    let end : IsShardEnd c.args.shared.now.splits from to split =
    subst (λ (splits : List Bytes). IsShardEnd splits from to split) c.as_slice.ensures.same c.split_after-split.ensures in
    let cut : option_copied c.or-end.result ≡ either split to = ap option_copied c.or-end.ensures ∙ copied_either c.split_after-split.result c.args.to in
    let listing : IsListing c.args.viewer.now after from (either split to) c.args.at keys next =
    subst (λ (o : Option Bytes). IsListing c.args.viewer.now after from o c.args.at keys next) cut c.in_ok-page.ensures.listed in
    let told : either next split ≡ c.or-page.result =
    sym (c.or-page.ensures ∙ is_either next c.copied.result ∙ ap (either next) c.copied.ensures) in
    subst (λ (o : Option Bytes). IsListedBy c.args.shared.now.splits c.args.viewer.now after from to c.args.at keys o) told
    (across c.args.shared.now.splits from to split c.args.viewer.now after c.args.at keys next end listing)
