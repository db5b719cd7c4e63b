use Rattle.std.proofs.Common.{◌≡◌, ◌∙◌, ◌++◌, ◌∷◌, ℕ, List, [], get_or, ap, subst, sym, length, arith}
use Rattle.units.specs.declared.writes.Install.{Install}
use Rattle.versions.specs.Arranged.{arranged, no_install}
use Rattle.versions.specs.Halves.{AllUpTo, AllAfter}
use Rattle.versions.specs.Heads.{AreHeads}
use Rattle.versions.specs.Ordered.{installed}
use Rattle.versions.proofs.Arranged.{still_arranged, last_pushed}
use Rattle.versions.proofs.search.push.Goals as goal

pub place-requires-clause-heads : goal.place-requires-clause-heads
place-requires-clause-heads c =
    let items = c.args.installs.now.items in
    let places = c.args.places.now.places in
    subst (λ t. AreHeads c.args.places.now.prefix t c.args.places.now.heads)
    (sym (ap (λ t. arranged t places) (c.deref.ensures.value ∙ c.push_reserved.ensures.items)
    ∙ still_arranged items (c.args.new ∷ []) places c.requires.within))
    c.requires.heads

pub place-requires-clause-before : goal.place-requires-clause-before
place-requires-clause-before c =
    let new = c.args.new in
    let items = c.args.installs.now.items in
    let places = c.args.places.now.places in
    let all : c.deref.result.now ≡ items ++ new ∷ [] = c.deref.ensures.value ∙ c.push_reserved.ensures.items in
    let count : c.len-at.result ≡ length items = omega (arith, c.len-at.ensures) in
    let here : new ≡ get_or c.deref.result.now c.len-at.result no_install =
    sym (ap (λ (t : List Install). get_or t c.len-at.result no_install) all
    ∙ ap (λ (n : ℕ). get_or (items ++ new ∷ []) n no_install) count ∙ last_pushed items new) in
    subst (λ (y : Install). AllUpTo y.key y.at (arranged c.deref.result.now places) c.args.count) here
    (subst (λ (t : List Install). AllUpTo new.key new.at t c.args.count)
    (sym (ap (λ t. arranged t places) all ∙ still_arranged items (new ∷ []) places c.requires.within)) c.requires.before)

pub place-requires-clause-after : goal.place-requires-clause-after
place-requires-clause-after c =
    let new = c.args.new in
    let items = c.args.installs.now.items in
    let places = c.args.places.now.places in
    let all : c.deref.result.now ≡ items ++ new ∷ [] = c.deref.ensures.value ∙ c.push_reserved.ensures.items in
    let count : c.len-at.result ≡ length items = omega (arith, c.len-at.ensures) in
    let here : new ≡ get_or c.deref.result.now c.len-at.result no_install =
    sym (ap (λ (t : List Install). get_or t c.len-at.result no_install) all
    ∙ ap (λ (n : ℕ). get_or (items ++ new ∷ []) n no_install) count ∙ last_pushed items new) in
    subst (λ (y : Install). AllAfter y.key y.at (arranged c.deref.result.now places) c.args.count) here
    (subst (λ (t : List Install). AllAfter new.key new.at t c.args.count)
    (sym (ap (λ t. arranged t places) all ∙ still_arranged items (new ∷ []) places c.requires.within)) c.requires.after)

pub returns-clause-items : goal.returns-clause-items
returns-clause-items c =
    let new = c.args.new in
    let items = c.args.installs.now.items in
    let places = c.args.places.now.places in
    let count : c.len-at.result ≡ length items = omega (arith, c.len-at.ensures) in
    let all : c.deref.result.now ≡ items ++ new ∷ [] = c.deref.ensures.value ∙ c.push_reserved.ensures.items in
    ap (λ t. arranged t c.place.new.places.places) (sym c.deref.ensures.value)
    ∙ c.place.ensures.items
    ∙ ap (λ t. installed (arranged t places) (get_or t c.len-at.result no_install)) all
    ∙ ap (λ t. installed t (get_or (items ++ new ∷ []) c.len-at.result no_install)) (still_arranged items (new ∷ []) places c.requires.within)
    ∙ ap (λ n. installed (arranged items places) (get_or (items ++ new ∷ []) n no_install)) count
    ∙ ap (installed (arranged items places)) (last_pushed items new)
