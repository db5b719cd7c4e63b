use Rattle.std.proofs.Common.{insert, ap, ◌∙◌}
use Rattle.session.specs.Places.{place_among}
use Rattle.session.proofs.Filters.{insert_key}
use Rattle.session.proofs.lists.insert_key.Goals as goal

pub returns-clause-same : goal.returns-clause-same
returns-clause-same c =
    c.in_ok-insert.ensures.items
    ∙ ap (λ n. insert c.args.keys.now.items n c.args.key) (c.place_among-place.ensures.place ∙ ap (λ ks. place_among ks c.args.key) c.as_slice.ensures.value)
    ∙ insert_key c.args.keys.now.items c.args.key
