-- What a contract sees of the disk of a desk that was stopped.
use Rattle.node.specs.declared.rest.Rest.{Rest}
use Rattle.node.specs.Restart.{RestView}

-- the disk that is there, with its board
abbrev pub seen_rest : {D R : Type 0} → Rest D R → RestView D
seen_rest rest = record { disk = rest.disk; board = rest.publisher }
