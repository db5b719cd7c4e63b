-- Acknowledgements by the moments at which they came, each with the greatest timestamp up to there.
use Rattle.std.specs.Prelude.{ℕ, Bool, false, max, nat_le, nat_lt, List, [], ◌∷◌, take, Option, Some, None}
use Rattle.units.specs.Fronts.{front}
use Rattle.units.specs.declared.line.Line.{Line}
use Rattle.units.specs.declared.line.Line.TheVariants as line
use Rattle.inspector.specs.Ascending.{AscendsBy}
use Rattle.inspector.specs.declared.acks.Ack.{Ack}

-- a line that is one
abbrev pub as_ack : Line → Option Ack
as_ack (line.Ack t s m) = Some (record { moment = m; at = s })
as_ack _ = None

-- one came earlier
abbrev pub came_earlier : Ack → Ack → Bool
came_earlier a b = nat_lt a.moment b.moment

-- none comes before one that came earlier
abbrev pub AscendsByMoment : List Ack → Type 0
AscendsByMoment xs = AscendsBy came_earlier xs

-- each with the greatest timestamp up to there, from one that is there in any case
abbrev pub raised_acks : ℕ → List Ack → List Ack
raised_acks top [] = []
raised_acks top (a ∷ xs) = record { moment = a.moment; at = max a.at top } ∷ raised_acks (max a.at top) xs

-- it came before a moment
abbrev pub is_before : ℕ → Ack → Bool
is_before moment a = nat_lt a.moment moment

-- the timestamp of the last one is not below another
abbrev pub last_reaches : ℕ → Bool → List Ack → Bool
last_reaches at known [] = known
last_reaches at known (a ∷ xs) = last_reaches at (nat_le at a.at) xs

-- that of the last one before a moment
abbrev pub is_late_by : ℕ → ℕ → List Ack → Bool
is_late_by moment at xs = last_reaches at false (take (front (is_before moment) xs) xs)
