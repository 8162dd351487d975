-- When a transistor conducts (Rabaey, Digital Integrated Circuits: a transistor as a switch).
use Rattle.dom_base.specs.Tri.{opposite}
use Rattle.dom_base.specs.declared.kind.Kind.{Kind}
use Rattle.dom_base.specs.declared.kind.Kind.TheVariants.{N as nch, P as pch, Keep}
use Rattle.dom_base.specs.declared.tri.Tri.{Tri}

-- whether a device conducts at a value of its gate: One is on, Zero is off, Unknown is maybe
abbrev pub conduction : Kind → Tri → Tri
conduction nch gate = gate
conduction pch gate = opposite gate
conduction Keep gate = opposite gate
