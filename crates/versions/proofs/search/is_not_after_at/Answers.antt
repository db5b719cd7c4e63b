use Rattle.std.proofs.Common.{ℕ, ◌∙◌, sym, ap, get_or, arith}
use Rattle.versions.specs.Arranged.{arranged, no_install}
use Rattle.versions.specs.Ordered.{is_not_after}
use Rattle.versions.proofs.Arranged.{arranged_at, length_arranged}
use Rattle.versions.proofs.Heads.{smaller_head, greater_head, less_by, greater_by}
use Rattle.versions.proofs.search.is_not_after_at.Goals as goal

pub returns-in-Less-clause-value : goal.returns-in-Less-clause-value
returns-in-Less-clause-value c =
    let places = c.args.places.now.places in
    let less = less_by c.head.result c.args.key_head (sym c.cmp.ensures ∙ c.in-Less.is) in
    sym (smaller_head c.args.places.now.prefix (arranged c.args.installs.now places) c.args.places.now.heads c.args.key.now
    c.args.middle c.args.at c.requires.heads (omega (arith, c.requires.middle, length_arranged c.args.installs.now places)) c.requires.bytes
    (omega (arith, less, c.head.ensures, c.requires.head)))

pub returns-in-Equal-clause-value : goal.returns-in-Equal-clause-value
returns-in-Equal-clause-value c =
    let places = c.args.places.now.places in
    c.is_not_after.ensures.value
    ∙ ap (is_not_after c.args.key.now c.args.at)
    (sym (arranged_at c.args.installs.now places c.args.middle c.index-installs-get.result no_install c.requires.within c.requires.middle
    (c.index-installs-get.is ∙ ap (λ (p : ℕ). get_or c.args.installs.now p c.index-installs-get.result) c.get.ensures)))

pub returns-in-Greater-clause-value : goal.returns-in-Greater-clause-value
returns-in-Greater-clause-value c =
    let places = c.args.places.now.places in
    let more = greater_by c.head.result c.args.key_head (sym c.cmp.ensures ∙ c.in-Greater.is) in
    sym (greater_head c.args.places.now.prefix (arranged c.args.installs.now places) c.args.places.now.heads c.args.key.now
    c.args.middle c.args.at c.requires.heads (omega (arith, c.requires.middle, length_arranged c.args.installs.now places)) c.requires.bytes
    (omega (arith, more, c.head.ensures, c.requires.head)))
