use Rattle.std.proofs.Common.{◌≡◌, ◌+◌, ◌<◌, ◌++◌, [], ◌∷◌, false, length, refl, sym, ap, ◌∙◌, subst, inr}
use Rattle.std.proofs.lemmas.Result.{err_from_is_err_and}
use Rattle.units.specs.Keys.{has_key, shard_of}
use Rattle.message.specs.declared.message.Message.{Message}
use Rattle.message.specs.declared.message.Address.TheVariants.{Shard}
use Rattle.session.specs.Sessions.{Goes}
use Rattle.session.specs.Shown.{Session, IsWithinLimits, is_made, taken_keys}
use Rattle.session.proofs.Kept.{kept_read, few_asked, not_answered}
use Rattle.session.proofs.Steps.{reads_goes}
use Rattle.session.proofs.tx.Tx+Open.read.Goals as goal

pub returns-in_err-reserve-clause-step : goal.returns-in_err-reserve-clause-step
returns-in_err-reserve-clause-step c =
    let p = err_from_is_err_and c.from_residual-in_err-reserve.result c.from_residual-in_err-reserve.ensures.1 in
    let s = c.args.self.now in
    let k = c.args.key in
    let may = c.in_ok-may_read.ensures in
    rw (p.1, p.2, c.in_err-reserve.ensures.items) (
      ap (λ (t : Session). t.client) c.self.view_is,
      inr (refl, ap is_made (reads_goes s.splits k s.client (s.client.awaited ++ k ∷ []) (shard_of s.splits k) may.0 may.1 may.2 may.3 refl refl)),
    )

pub invariant_of-self-2 : goal.invariant_of-self-2
invariant_of-self-2 c =
    let i = c.self.inside in
    let s = c.args.self.now in
    let k = c.args.key in
    let may = c.in_ok-may_read.ensures in
    let few : length i.taken.items + length i.awaited.items < 128 =
    subst (λ (t : Session). length t.client.taken + length t.client.awaited < 128) (sym c.self.view_is) (few_asked s.client may.0) in
    let new : has_key (taken_keys i.taken.items) k ≡ false =
    subst (λ (t : Session). has_key (taken_keys t.client.taken) k ≡ false) (sym c.self.view_is) (not_answered s.client k may.1) in
    let pushed : c.push_reserved.new.self.items ≡ i.awaited.items ++ k ∷ [] =
    c.push_reserved.ensures.items ∙ ap (λ l. l ++ k ∷ []) c.in_ok-reserve.ensures.items in
    subst (λ aw. IsWithinLimits i.taken.items aw i.writes.items) (sym pushed)
    (kept_read i.taken.items i.awaited.items i.writes.items k c.self.invariant few new)

pub returns-clause-step : goal.returns-clause-step
returns-clause-step c =
    let s = c.args.self.now in
    let k = c.args.key in
    let may = c.in_ok-may_read.ensures in
    let aw = c.push_reserved.new.self.items in
    let n = c.shard_of-shard.result in
    let pushed : aw ≡ s.client.awaited ++ k ∷ [] =
    c.push_reserved.ensures.items ∙ ap (λ l. l ++ k ∷ []) c.in_ok-reserve.ensures.items ∙ ap (λ (t : Session). t.client.awaited ++ k ∷ []) c.self.view_is in
    let at : n ≡ shard_of s.splits k = c.shard_of-shard.ensures ∙ ap (λ (t : Session). shard_of t.splits k) c.self.view_is in
    reads_goes s.splits k s.client aw n may.0 may.1 may.2 may.3 pushed at
    ∙ ap (λ (t : Session). Goes (record t.client { awaited = aw })
    (record { to = Shard n; message = Message.Read (record { txn = t.client.txn; key = k }) } ∷ [])) (sym c.self.view_is)
