use Rattle.std.proofs.Common.{◌≡◌, ◌∙◌, ◌++◌, ◌∷◌, [], List, true, sym, ap, subst, arith}
use Rattle.std.proofs.lemmas.List.{append_assoc, length-append}
use Rattle.units.specs.Keys.{write_before}
use Rattle.units.specs.Lists.{ascends}
use Rattle.units.specs.Versions.{above_versions}
use Rattle.units.specs.declared.writes.Install.{Install}
use Rattle.units.specs.declared.writes.Write.{Write}
use Rattle.versions.specs.Ordered.{installed, is_above}
use Rattle.versions.proofs.AtOnce.{above_at_turn, installed_next}
use Rattle.versions.proofs.store.Versions.install_all.Goals as goal

pub install-requires-clause-above : goal.install-requires-clause-above
install-requires-clause-above c =
    let w = c.in-Some.write in
    let done = c.loop-write.yielded in
    let rest = c.next.new.self.rest.items in
    let turn : done ++ w ∷ rest ≡ c.args.writes = ap (λ r. done ++ r) (sym c.in-Some.ensures.steps.0) ∙ c.loop-write.invariant.whole in
    let up = subst (λ (ws : List Write). ascends write_before ws ≡ true) (c.into_vec-write-items.ensures.same
    ∙ sym turn) c.into_vec-write-items.ensures.ascending in
    let above = subst (λ (ws : List Write). above_versions c.args.self.now.installs c.args.at ws ≡ true) (sym turn) c.requires.above in
    subst (λ (t : List Install). is_above t w.key c.args.at ≡ true) (sym c.loop-write.invariant.installs)
    (above_at_turn done w rest c.args.at c.args.self.now.installs up above)

pub loop-write-preserved : goal.loop-write-preserved
loop-write-preserved c =
    let w = c.in-Some.write in
    let done = c.loop-write.yielded in
    record {
      installs = c.install.ensures.installs
          ∙ ap (λ (t : List Install). installed t (record { key = w.key; at = c.args.at; value = w.value })) c.loop-write.invariant.installs
          ∙ installed_next done w c.args.at c.args.self.now.installs;
      room = omega (arith, length-append {A = Write}, c.install.ensures.room, c.loop-write.invariant.room);
      whole = append_assoc done (w ∷ []) c.next.new.self.rest.items ∙ ap (λ r. done ++ r) (sym c.in-Some.ensures.steps.0) ∙ c.loop-write.invariant.whole;
    }
