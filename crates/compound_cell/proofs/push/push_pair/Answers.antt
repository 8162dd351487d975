use Rattle.std.proofs.Common.{refl}
use Rattle.deck.proofs.CircuitGrowth.{Grew-same}
use Rattle.compound_cell.proofs.push.push_pair.Goals as goal

pub returns-in_err-nets-clause-grew : goal.returns-in_err-nets-clause-grew
returns-in_err-nets-clause-grew c = Grew-same refl

pub push_parts-requires-clause-named : goal.push_parts-requires-clause-named
push_parts-requires-clause-named c = c.in_ok-nets.ensures

pub push_parts-requires-clause-whole : goal.push_parts-requires-clause-whole
push_parts-requires-clause-whole c = c.requires.whole

pub push_parts-requires-clause-nets : goal.push_parts-requires-clause-nets
push_parts-requires-clause-nets c = c.requires.nets

pub push_parts-requires-clause-left : goal.push_parts-requires-clause-left
push_parts-requires-clause-left c = c.requires.left

pub push_parts-requires-clause-right : goal.push_parts-requires-clause-right
push_parts-requires-clause-right c = c.requires.right

pub push_parts-requires-clause-room : goal.push_parts-requires-clause-room
push_parts-requires-clause-room c = c.requires.room

pub returns-clause-devices : goal.returns-clause-devices
returns-clause-devices c = c.push_parts.ensures.devices

pub returns-clause-driven : goal.returns-clause-driven
returns-clause-driven c = c.push_parts.ensures.driven

pub returns-clause-grew : goal.returns-clause-grew
returns-clause-grew c = c.push_parts.ensures.grew
