use Rattle.std.proofs.Common.{◌≡◌, ◌∙◌, ℕ, List, ap}
use Rattle.units.specs.Keys.{same_key}
use Rattle.versions.specs.Headed.{Headed}
use Rattle.versions.specs.Heads.{prefix_of}
use Rattle.versions.proofs.placed.Places.are_behind.Goals as goal

pub returns : goal.returns
returns c =
    let same : c.eq.result ≡ same_key c.prefix_bytes.result.now c.prefix_bytes-2.result.now = c.eq.ensures in
    same ∙ ap (λ (a : List ℕ). same_key a c.prefix_bytes-2.result.now) c.prefix_bytes.ensures
    ∙ ap (same_key (prefix_of c.self.inside.prefix)) c.prefix_bytes-2.ensures
    ∙ ap (λ (v : Headed). same_key v.prefix (prefix_of c.args.prefix.now)) c.self.view_is
