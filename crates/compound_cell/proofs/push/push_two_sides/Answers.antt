use Rattle.std.proofs.Common.{ap, arith, ◌∙◌}
use Rattle.deck.specs.Cuts.{cut_to}
use Rattle.deck.proofs.Cuts.{cut_to-grew}
use Rattle.sp_network.specs.TypedTree.{tree_of}
use Rattle.domino_cell.proofs.CellCircuits.{Grew-longer}
use Rattle.compound_cell.proofs.PairCells.{pair_definite, pair_possible, pair_stages}
use Rattle.compound_cell.proofs.push.push_two_sides.Goals as goal

pub cut-requires : goal.cut-requires
cut-requires c = omega (arith, c.device_count-before.ensures.count, Grew-longer c.push_pair.ensures.grew)

pub returns-in-Ok-clause-stages : goal.returns-in-Ok-clause-stages
returns-in-Ok-clause-stages c =
    pair_stages c.args.clock c.args.k c.args.names.now (tree_of c.args.left.now) (tree_of c.args.right.now) c.args.circuit.now c.push_pair.new.circuit
    c.device_count-before.ensures.whole c.requires.nets (omega (arith, c.requires.room)) (omega (arith, c.requires.room)) c.in-Ok.ensures.devices

pub returns-in-Ok-clause-definite : goal.returns-in-Ok-clause-definite
returns-in-Ok-clause-definite c =
    pair_definite c.args.clock c.args.k c.args.names.now (tree_of c.args.left.now) (tree_of c.args.right.now) c.args.circuit.now c.push_pair.new.circuit
    c.device_count-before.ensures.whole c.requires.nets (omega (arith, c.requires.room)) (omega (arith, c.requires.room)) c.in-Ok.ensures.devices

pub returns-in-Ok-clause-possible : goal.returns-in-Ok-clause-possible
returns-in-Ok-clause-possible c =
    pair_possible c.args.clock c.args.k c.args.names.now (tree_of c.args.left.now) (tree_of c.args.right.now) c.args.circuit.now c.push_pair.new.circuit
    c.device_count-before.ensures.whole c.requires.nets (omega (arith, c.requires.room)) (omega (arith, c.requires.room)) c.in-Ok.ensures.devices

pub returns-in-Err-clause-refused : goal.returns-in-Err-clause-refused
returns-in-Err-clause-refused c =
    c.cut.ensures
    ∙ ap (cut_to c.push_pair.new.circuit) c.device_count-before.ensures.count
    ∙ cut_to-grew c.args.circuit.now c.push_pair.new.circuit c.push_pair.ensures.grew c.device_count-before.ensures.whole.all_used
