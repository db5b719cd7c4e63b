-- What is said in a row.
use Rattle.std.proofs.Common.{◌≡◌, refl, sym, ap, ◌∙◌, subst, append_assoc, append-nil, List, [], ◌∷◌, ◌++◌}
use Rattle.units.specs.Keys.{Bytes}
use Rattle.session.specs.Sessions.{Client}
use Rattle.serving.specs.declared.asks.Exchange.{Exchange}
use Rattle.serving.specs.Talks.{AreLed, IsLine, IsTalk}

led_on : (splits : List Bytes) (first second : List Exchange) (c m d : Client) → AreLed splits first c m → AreLed splits second m d
    → AreLed splits (first ++ second) c d
led_on splits [] second c m d none led = subst (λ (x : Client). AreLed splits second x d) none led
led_on splits (e ∷ first) second c m d one led = (one.0, one.1, led_on splits first second one.0 m d one.2 led)

-- nothing was said
pub nothing_said : (splits : List Bytes) (said : List Exchange) (c : Client) → IsTalk splits said said c c
nothing_said splits said c = record { talk = []; said = sym (append-nil said); led = refl }

-- one line
pub as_talk : (splits : List Bytes) (before now : List Exchange) (c d : Client) → IsLine splits before now c d → IsTalk splits before now c d
as_talk splits before now c d is = record { talk = is.line ∷ []; said = is.said; led = (d, is.led, refl) }

-- what was said in a row
pub said_on : (splits : List Bytes) (before mid now : List Exchange) (c m d : Client) → IsTalk splits before mid c m → IsTalk splits mid now m d
    → IsTalk splits before now c d
said_on splits before mid now c m d first second = record {
  talk = first.talk ++ second.talk;
  said = second.said ∙ (ap (λ s. s ++ second.talk) first.said ∙ append_assoc before first.talk second.talk);
  led = led_on splits first.talk second.talk c m d first.led second.led;
}
