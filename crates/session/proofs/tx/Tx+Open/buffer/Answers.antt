use Rattle.std.proofs.Common.{◌≡◌, false, not, ◌&&◌, nat_le, length, [], refl, sym, ap, ◌∙◌, subst, inr, filter}
use Rattle.std.proofs.lemmas.Result.{err_from_is_err_and}
use Rattle.units.specs.declared.writes.Write.{Write}
use Rattle.units.specs.Keys.{same_key, write_before, writes_key}
use Rattle.units.specs.Lists.{insert}
use Rattle.session.specs.Sessions.{Goes, with_write}
use Rattle.session.specs.Shown.{Session, IsWithinLimits, is_made}
use Rattle.session.proofs.Kept.{kept_written}
use Rattle.session.proofs.Steps.{buffers_goes}
use Rattle.session.proofs.tx.Tx+Open.buffer.Goals as goal

pub returns-in_err-reserve-clause-step : goal.returns-in_err-reserve-clause-step
returns-in_err-reserve-clause-step c =
    let p = err_from_is_err_and c.from_residual-in_err-reserve.result c.from_residual-in_err-reserve.ensures.1 in
    let s = c.args.self.now in
    let w : Write = record { key = c.args.key; value = c.args.value } in
    let may = c.in_ok-may_buffer.ensures in
    rw (p.1, p.2, c.in_err-reserve.ensures.items) (
      ap (λ (t : Session). t.client) c.self.view_is,
      inr (refl, ap is_made (buffers_goes w s.client (with_write s.client.writes w) may.0 may.1 refl)),
    )

pub invariant_of-self-2 : goal.invariant_of-self-2
invariant_of-self-2 c =
    let i = c.self.inside in
    let s = c.args.self.now in
    let w : Write = record { key = c.args.key; value = c.args.value } in
    let may = c.in_ok-may_buffer.ensures in
    let room : (nat_le 128 (length i.writes.items) && not (writes_key i.writes.items w.key)) ≡ false =
    subst (λ (t : Session). (nat_le 128 (length t.client.writes) && not (writes_key t.client.writes w.key)) ≡ false) (sym c.self.view_is) may.0 in
    let written : c.insert_write.new.writes.items ≡ with_write i.writes.items w =
    c.insert_write.ensures ∙ ap (insert write_before w) (c.drop_write.ensures.same
    ∙ ap (λ ws. filter (λ (v : Write). not (same_key v.key w.key)) ws) c.in_ok-reserve.ensures.items) in
    subst (λ ws. IsWithinLimits i.taken.items i.awaited.items ws) (sym written)
    (kept_written i.taken.items i.awaited.items i.writes.items w c.self.invariant room)

pub returns-clause-step : goal.returns-clause-step
returns-clause-step c =
    let s = c.args.self.now in
    let w : Write = record { key = c.args.key; value = c.args.value } in
    let may = c.in_ok-may_buffer.ensures in
    let ws = c.insert_write.new.writes.items in
    let written : ws ≡ with_write s.client.writes w =
    c.insert_write.ensures
    ∙ ap (insert write_before w) (c.drop_write.ensures.same ∙ ap (λ vs. filter (λ (v : Write). not (same_key v.key w.key)) vs) c.in_ok-reserve.ensures.items)
    ∙ ap (λ (t : Session). with_write t.client.writes w) c.self.view_is in
    buffers_goes w s.client ws may.0 may.1 written
    ∙ ap (λ (t : Session). Goes (record t.client { writes = ws }) []) (sym c.self.view_is)
