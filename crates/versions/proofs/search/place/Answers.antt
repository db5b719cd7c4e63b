use Rattle.std.proofs.Common.{◌≡◌, ◌∙◌, ℕ, ◌+◌, List, get_or, ap, subst, sym, arith}
use Rattle.std.specs.List.{insert}
use Rattle.std.proofs.lemmas.List.{get_or_default}
use Rattle.versions.specs.Arranged.{arranged, no_install, AreWithin}
use Rattle.versions.specs.Heads.{AreHeads}
use Rattle.versions.proofs.Heads.{heads_insert}
use Rattle.versions.proofs.Arranged.{insert_is_arranged, insert_within, length_arranged}
use Rattle.versions.proofs.Halves.{insert_is_installed}
use Rattle.versions.proofs.search.place.Goals as goal

pub returns-clause-items : goal.returns-clause-items
returns-clause-items c =
    let installs = c.args.installs.now in
    let places = c.args.places.now.places in
    let count = c.args.count in
    ap (arranged installs) (c.renew.ensures.places ∙ c.insert.ensures.places)
    ∙ insert_is_arranged installs places count c.args.at
    ∙ insert_is_installed (get_or installs c.args.at no_install) (arranged installs places) count
    (omega (arith, c.requires.bound, length_arranged installs places)) c.requires.before c.requires.after

pub returns-clause-within : goal.returns-clause-within
returns-clause-within c =
    subst (λ (t : List ℕ). AreWithin t (c.args.at + 1)) (sym (c.renew.ensures.places ∙ c.insert.ensures.places))
    (insert_within c.args.places.now.places c.args.at c.args.count c.requires.within)

pub renew-requires-clause-heads : goal.renew-requires-clause-heads
renew-requires-clause-heads c =
    let installs = c.args.installs.now in
    let places = c.args.places.now.places in
    let heads = c.args.places.now.heads in
    let prefix = c.args.places.now.prefix in
    let count = c.args.count in
    let new = c.index-installs-at.result in
    let is : new ≡ get_or installs c.args.at no_install = c.index-installs-at.is ∙ get_or_default installs c.args.at new no_install c.requires.there in
    let listed : arranged installs c.insert.new.self.places ≡ insert (arranged installs places) count new =
    ap (arranged installs) c.insert.ensures.places ∙ insert_is_arranged installs places count c.args.at
    ∙ ap (insert (arranged installs places) count) (sym is) in
    subst (λ (p : List ℕ). AreHeads p (arranged installs c.insert.new.self.places) c.insert.new.self.heads) (sym c.insert.ensures.prefix)
    (subst (λ t. AreHeads prefix t c.insert.new.self.heads) (sym listed)
    (subst (AreHeads prefix (insert (arranged installs places) count new))
    (sym (c.insert.ensures.heads ∙ ap (insert heads count) c.head_of-key_head.ensures.head))
    (heads_insert prefix (arranged installs places) heads count new c.head_of-key_head.ensures.bytes c.requires.heads)))
