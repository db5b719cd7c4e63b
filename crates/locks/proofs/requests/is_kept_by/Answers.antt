use Rattle.std.proofs.Common.{◌∙◌, sym, ap, [], ◌∷◌}
use Rattle.std.proofs.lemmas.Bool.{not-true}
use Rattle.std.specs.Option.{option_copied}
use Rattle.locks.specs.Ways.{keeps_out}
use Rattle.locks.proofs.Firsts.{found_any}
use Rattle.locks.proofs.Named.{kept_by_none}
use Rattle.locks.proofs.requests.is_kept_by.Goals as goal

pub returns-then-keeps_out : goal.returns-then-keeps_out
returns-then-keeps_out c =
    sym (found_any (keeps_out c.args.txn (c.args.lock.now ∷ [])) c.args.claims.now c.args.other c.in-Some.claim.now
    (sym c.find.ensures ∙ ap option_copied c.in-Some.is) (sym c.keeps_out.ensures ∙ c.if-keeps_out.true))

pub returns-then-seems_paired : goal.returns-then-seems_paired
returns-then-seems_paired c =
    sym (kept_by_none c.args.tally.now c.args.claims.now c.args.txn c.args.other c.args.lock.now c.in-Some.claim.now c.requires
    (not-true _ (sym c.ne.ensures ∙ c.if-ne.true)) (sym c.find.ensures ∙ ap option_copied c.in-Some.is)
    (sym c.keeps_out.ensures ∙ c.if-keeps_out.false) (sym c.seems_paired.ensures ∙ c.if-seems_paired.true))
