-- Files that a text of BLIF, the Berkeley Logic Interchange Format, can hold.
use Rattle.std.specs.Prelude.{ℕ, ◌≤◌, ◌<◌, ◌≡◌, ◌≢◌, true, List, [], ◌++◌, nat_eq, length, map, codes, All, IfSome}
use Rattle.std.specs.List.{IsDistinct}
use Rattle.blif_ast.specs.declared.instance.Binding.{Binding}
use Rattle.blif_ast.specs.declared.latch.Latch.{Latch}
use Rattle.blif_ast.specs.BlifFileData.{BlifFileData}
use Rattle.blif_ast.specs.BlifModelData.{BlifModelData}
use Rattle.blif_ast.specs.InstanceData.{InstanceData}
use Rattle.blif_ast.specs.TableData.{TableData}

-- a byte that may stand in a name: no blank and no control byte, and no `#`, which begins a comment
abbrev pub IsNameByte : ℕ → Type 0
IsNameByte b = (32 < b) × (b ≢ 127) × (b ≢ 35)

-- a name that can stand as a word of a line
pub record IsGoodName (name : List ℕ) : Type 0 where
  pub some : name ≢ []
  pub bytes : All IsNameByte name

-- a table with names that are good, at most 4,096 inputs, one letter per input in each row, and a true `on` where it has no rows
pub record IsGoodTable (t : TableData) : Type 0 where
  pub inputs : All IsGoodName t.inputs
  pub output : IsGoodName t.output
  pub few_inputs : length t.inputs ≤ 4096
  pub rows : All (λ row. length row ≡ length t.inputs) t.rows
  pub on : t.rows ≡ [] → t.on ≡ true

-- a signal that can control latches: `NIL` is the word for none
pub record IsGoodSignal (signal : List ℕ) : Type 0 where
  pub name : IsGoodName signal
  pub some : signal ≢ codes "NIL"

-- a latch with names that are good, and one of the four start values
pub record IsGoodLatch (l : Latch) : Type 0 where
  pub input : IsGoodName l.input
  pub output : IsGoodName l.output
  pub control : IfSome l.control (λ c. IfSome c.signal IsGoodSignal)
  pub init : l.init ≤ 3

-- a binding with names that are good; it is written with `=` behind the formal, and read by its first `=`
pub record IsGoodBinding (b : Binding) : Type 0 where
  pub formal : IsGoodName b.formal
  pub no_equals : All (λ byte. byte ≢ 61) b.formal
  pub actual : IsGoodName b.actual

-- an instance with names that are good
pub record IsGoodInstance (i : InstanceData) : Type 0 where
  pub unit : IsGoodName i.unit
  pub bindings : All IsGoodBinding i.bindings

-- the lines of all tables, latches and instances of a model
abbrev pub part_lines : BlifModelData → List ℕ
part_lines m = map (λ t. t.line) m.tables ++ map (λ l. l.line) m.latches ++ map (λ i. i.line) m.instances

-- a model with names and parts that are good
pub record IsGoodModel (m : BlifModelData) : Type 0 where
  pub name : IsGoodName m.name
  pub inputs : All IsGoodName m.inputs
  pub outputs : All IsGoodName m.outputs
  pub tables : All IsGoodTable m.tables
  pub latches : All IsGoodLatch m.latches
  pub instances : All IsGoodInstance m.instances
  -- no two cards stand on one line
  pub apart : IsDistinct nat_eq (part_lines m)

-- a file that has a model, and whose models are good: one that a text can hold
pub record IsGoodFile (f : BlifFileData) : Type 0 where
  pub some : f.models ≢ []
  pub models : All IsGoodModel f.models
