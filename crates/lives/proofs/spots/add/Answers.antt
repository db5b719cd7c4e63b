use Rattle.std.proofs.Common.{◌≡◌, ◌++◌, ◌∷◌, [], length, sym, ap, ◌∙◌}
use Rattle.lives.specs.Spots.{line, since_of, spots_in}
use Rattle.lives.proofs.Standing.{one_added}
use Rattle.lives.proofs.spots.add.Goals.{in-Some, in-None}
use Rattle.lives.proofs.spots.add.Goals as goal

pub returns-in-Ok-clause-added : goal.returns-in-Ok-clause-added
returns-in-Ok-clause-added c is many h =
    let i = c.args.install.now in
    let old = c.args.spots.now.entries in
    let was = c.match-swap_remove.line in
    let had : was.items ≡ line old i.key = elim c.match-swap_remove.branch [
      | in-Some w ↦ ap (λ v. v.items) w.line-is ∙ ap spots_in (sym w.in-Some.is ∙ c.swap_remove.ensures.value)
      | in-None w ↦ ap (λ v. v.items) w.line-is ∙ w.new-line.ensures.items ∙ ap spots_in (sym w.in-None.is ∙ c.swap_remove.ensures.value)
    ] in
    let since = c.since.ensures ∙ (λ m. since_of (c.deref.ensures.value m) (sym many m) i.at) in
    let more : c.push.new.self.items ≡ was.items ++ record { place = length is; at = i.at; since = since_of was.items (length is) i.at } ∷ [] =
    c.in_ok-push.ensures.items
    ∙ (λ n. was.items ++ record { place = sym many n; at = i.at; since = since n } ∷ []) in
    one_added is i old c.swap_remove.new.self.entries c.insert.new.self.entries was c.push.new.self c.swap_remove.ensures.updates.0
    c.in-Ok.ensures.updates.0 had more h
