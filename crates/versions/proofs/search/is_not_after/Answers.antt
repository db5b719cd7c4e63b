use Rattle.std.proofs.Common.{◌≡◌, ◌∙◌, refl, true, false, sym, ap, nat_le, is_lt, is_eq}
use Rattle.units.specs.Keys.{same_key, key_before}
use Rattle.units.proofs.KeyOrder.{before_by, same_by}
use Rattle.versions.proofs.search.is_not_after.Goals as goal

pub returns-in-Less-clause-value : goal.returns-in-Less-clause-value
returns-in-Less-clause-value c =
    let one = c.args.install.now.key in
    let before : key_before one c.args.key.now ≡ true = sym (before_by one c.args.key.now c.cmp.result c.cmp.ensures) ∙ ap is_lt c.in-Less.is in
    rw before refl

pub returns-in-Equal-clause-value : goal.returns-in-Equal-clause-value
returns-in-Equal-clause-value c =
    let one = c.args.install.now.key in
    let before : key_before one c.args.key.now ≡ false = sym (before_by one c.args.key.now c.cmp.result c.cmp.ensures) ∙ ap is_lt c.in-Equal.is in
    let same : same_key one c.args.key.now ≡ true = sym (same_by one c.args.key.now c.cmp.result c.cmp.ensures) ∙ ap is_eq c.in-Equal.is in
    rw (before, same) (ap (λ n. nat_le n c.args.at) c.micros.ensures.same)

pub returns-in-Greater-clause-value : goal.returns-in-Greater-clause-value
returns-in-Greater-clause-value c =
    let one = c.args.install.now.key in
    let before : key_before one c.args.key.now ≡ false = sym (before_by one c.args.key.now c.cmp.result c.cmp.ensures) ∙ ap is_lt c.in-Greater.is in
    let same : same_key one c.args.key.now ≡ false = sym (same_by one c.args.key.now c.cmp.result c.cmp.ensures) ∙ ap is_eq c.in-Greater.is in
    rw (before, same) refl
