-- What a client has put out, and the ends that it has heard.
use Rattle.std.specs.Prelude.{List}
use Rattle.message.specs.Ends.{End}
use Rattle.message.specs.declared.message.Envelope.{Envelope}

pub record Traffic : Type 0 where
  pub sent : List Envelope
  pub heard : List End
