use Rattle.std.proofs.Common.{◌≡◌, ◌+◌, ◌<◌, ◌++◌, ◌∷◌, [], get_or, ℕ, List, length, sym, ap, subst, ◌∙◌, arith}
use Rattle.std.proofs.lemmas.List.{get_or_default}
use Rattle.versions.specs.Arranged.{arranged}
use Rattle.versions.specs.Ordered.{AscendsByVersion}
use Rattle.versions.proofs.Last.{ascends_taken, next_taken}
use Rattle.versions.proofs.store.Versions.in_order.Goals as goal

pub append-requires-clause-last : goal.append-requires-clause-last
append-requires-clause-last c =
    let installs = c.args.installs.now in
    let places = c.args.places.now.places in
    let list = c.in_ok-list.ensures.places in
    let lt : c.loop-at.at < length places = omega (arith, c.loop-at-test.true, ap length list) in
    let x = c.index-installs-index.result in
    let is : x ≡ get_or installs (get_or places c.loop-at.at 0) x =
    c.index-installs-index.is ∙ ap (λ (p : ℕ). get_or installs p x) (c.index.ensures ∙ ap (λ (l : List ℕ). get_or l c.loop-at.at c.index.result.now) list ∙ get_or_default places c.loop-at.at c.index.result.now 0 lt) in
    let next = ap (λ r. r ++ x ∷ []) c.loop-at.invariant.copied ∙ next_taken installs places c.loop-at.at x c.requires.within lt is in
    subst AscendsByVersion (sym next) (ascends_taken (c.loop-at.at + 1) (arranged installs places) c.requires.order)

pub loop-at-preserved : goal.loop-at-preserved
loop-at-preserved c =
    let installs = c.args.installs.now in
    let places = c.args.places.now.places in
    let list = c.in_ok-list.ensures.places in
    let lt : c.loop-at.at < length places = omega (arith, c.loop-at-test.true, ap length list) in
    let x = c.index-installs-index.result in
    let is : x ≡ get_or installs (get_or places c.loop-at.at 0) x =
    c.index-installs-index.is ∙ ap (λ (p : ℕ). get_or installs p x) (c.index.ensures ∙ ap (λ (l : List ℕ). get_or l c.loop-at.at c.index.result.now) list ∙ get_or_default places c.loop-at.at c.index.result.now 0 lt) in
    let next = ap (λ r. r ++ x ∷ []) c.loop-at.invariant.copied ∙ next_taken installs places c.loop-at.at x c.requires.within lt is in
    record {
      copied = c.in_ok-append.ensures.installs ∙ next;
      room = omega (arith, c.in_ok-append.ensures.room, c.loop-at.invariant.room);
    }
