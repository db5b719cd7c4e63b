use Rattle.std.proofs.Common.{◌≡◌, ◌∙◌, ◌+◌, Some, None, ap, drop, get_or, sym}
use Rattle.toml.specs.View.{items_view, view}
use Rattle.settings.specs.Documents.{key_in, keys_in}
use Rattle.settings.proofs.Documents.{after, keys_more, keys_none}
use Rattle.settings.proofs.split_keys.split_keys.Goals as goal

pub returns-in-None : goal.returns-in-None
returns-in-None c =
    let vs = c.deref-item-items.result.now in
    let i = c.loop-item.item-index in
    let none : key_in (view (get_or vs i c.item-item.result)) ≡ None =
    ap (λ v. key_in (view v)) (sym c.item-item.is) ∙ sym c.split_key.ensures ∙ c.in-None.is in
    ap (λ xs. keys_in (items_view xs)) (sym c.deref-item-items.ensures.value) ∙ sym c.loop-item.invariant
    ∙ keys_none vs i c.item-item.result c.loop-item.found.items c.loop-item-test.true none

pub loop-item-preserved : goal.loop-item-preserved
loop-item-preserved c =
    let vs = c.deref-item-items.result.now in
    let i = c.loop-item.item-index in
    let key : key_in (view (get_or vs i c.item-item.result)) ≡ Some c.in-Some.key =
    ap (λ v. key_in (view v)) (sym c.item-item.is) ∙ sym c.split_key.ensures ∙ c.in-Some.is in
    ap (λ found. after found (keys_in (items_view (drop (i + 1) vs)))) c.in_ok-push-in-Some.ensures.items
    ∙ keys_more vs i c.item-item.result c.loop-item.found.items c.in-Some.key c.loop-item-test.true key
    ∙ c.loop-item.invariant
