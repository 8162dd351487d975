-- Devices as switches (Bryant, A switch-level model and simulator for MOS digital systems, 1984).
use Rattle.dom_base.specs.declared.tri.Tri.{Tri}
use Rattle.dom_base.specs.declared.tri.Tri.TheVariants.{Zero, One, Unknown}
use Rattle.switch_model.specs.declared.switch.Switch.{Switch}
use Rattle.switch_model.specs.declared.switch.Switch.TheVariants.{On, Off, Maybe}

-- a device conducts at One, does not at Zero, and may conduct at Unknown
abbrev pub switch_of : Tri → Switch
switch_of One = On
switch_of Zero = Off
switch_of Unknown = Maybe
