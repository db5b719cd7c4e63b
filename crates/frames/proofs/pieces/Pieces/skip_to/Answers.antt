use Rattle.std.proofs.Common.{◌≡◌, ◌+◌, ◌-◌, ◌∙◌, length, drop, sym, ap, arith}
use Rattle.std.proofs.lemmas.List.{drop-drop}
use Rattle.frames.specs.Ahead.{Ahead}
use Rattle.frames.proofs.Ahead.{passed}
use Rattle.frames.proofs.pieces.Pieces.skip_to.Goals as goal

pub returns-then-count-bytes-clause-there : goal.returns-then-count-bytes-clause-there
returns-then-count-bytes-clause-there c image ahead =
    let inside = c.self.inside in
    let a = c.args.self.now in
    let count = c.args.at - c.at.result in
    let at : inside.read + inside.passed - length inside.window.items ≡ a.at = ap (λ (x : Ahead). x.at) c.self.view_is in
    let bytes : drop inside.passed inside.window.items ≡ a.bytes = ap (λ (x : Ahead). x.bytes) c.self.view_is in
    passed image a count _ ahead (omega (arith, ap length c.bytes.ensures, c.if-count-bytes.true))
    (omega (arith, at, inside.before)) (sym (drop-drop count inside.passed inside.window.items) ∙ ap (drop count) bytes)
    (ap (λ (x : Ahead). x.left) c.self.view_is)
