-- Parts of a model that go into a file by numbers, one after the other, each kind in its order.
use Rattle.std.specs.Prelude.{ℕ, ◌≡◌, ◌≢◌, ◌+◌, ◌<◌, List, [], ◌∷◌, ◌++◌, length, map, All, Option, Some, None}
use Rattle.std.specs.List.{filter_map, flat_map}
use Rattle.std.specs.Option.{option_map, option_to_list}
use Rattle.blif_ast.specs.declared.instance.Binding.{Binding}
use Rattle.blif_ast.specs.declared.latch.Control.{Control}
use Rattle.blif_ast.specs.declared.latch.Edge2.{Edge2}
use Rattle.blif_ast.specs.declared.latch.Latch.{Latch}
use Rattle.blif_ast.specs.declared.letter.Letter.{Letter}
use Rattle.blif_ast.specs.BlifModelData.{BlifModelData}
use Rattle.blif_ast.specs.Good.{IsGoodTable}
use Rattle.blif_ast.specs.InstanceData.{InstanceData}
use Rattle.blif_ast.specs.TableData.{TableData}
use Rattle.file_copies.specs.declared.model_parts.Due.{Due}
use Rattle.file_copies.specs.declared.model_parts.Due.TheVariants as due
use Rattle.file_copies.specs.FileLetters.{tables_letters}
use Rattle.blif_ast.specs.Models.{row_at}
use Rattle.numbered_file.specs.Numbered.{table_in, latch_in, instance_in}
use Rattle.numbered_file.specs.OpenLists.{OpenLists}
use Rattle.blif_lines.specs.TextPlaces.{IsFrontOf, IsRestOf}

-- the edge and the words of a latch's control, and the words of bindings: each formal and its actual
abbrev pub edge_of : Option Control → Option Edge2
edge_of control = option_map (λ (c : Control). c.edge) control

abbrev pub signal_words : Option Control → List (List ℕ)
signal_words None = []
signal_words (Some control) = option_to_list control.signal

abbrev pub pair_words : List Binding → List (List ℕ)
pair_words bindings = flat_map (λ b. b.formal ∷ b.actual ∷ []) bindings

-- these rows stand behind the last part, and nothing else has changed
pub record HasRows (before after : OpenLists) (width : ℕ) (rows : List (List Letter)) : Type 0 where
  pub lists : after ≡ record before { rows = after.rows }
  pub rows_are : map (row_at before.text width) after.rows ≡ rows

-- the lists of a file by numbers, the parts of a model that are to come, and the letters of their rows and of what comes after them
pub record Pushing : Type 0 where
  pub lists : OpenLists
  pub tables : List TableData
  pub latches : List Latch
  pub instances : List InstanceData
  pub letters : List ℕ

abbrev pub state : OpenLists → List TableData → List Latch → List InstanceData → List ℕ → Pushing
state lists tables latches instances letters =
    record { lists = lists; tables = tables; latches = latches; instances = instances; letters = letters }

-- how many parts are to come
abbrev pub left_of : Pushing → ℕ
left_of s = length s.tables + (length s.latches + length s.instances)

-- no words or rows wait for a part, and the letters are the end of the text
pub record IsPushing (s : Pushing) : Type 0 where
  pub words : s.lists.words ≡ []
  pub rows : s.lists.rows ≡ []
  pub good : All IsGoodTable s.tables
  pub letters : IsFrontOf (tables_letters s.tables) s.letters
  pub there : IsRestOf s.lists.text s.letters

-- parts that were to come are among those of the lists
pub record IsLater (s later : Pushing) : Type 0 where
  pub lists : later.lists ≡ record s.lists { parts = later.lists.parts }
  pub tables : filter_map table_in later.lists.parts ++ later.tables ≡ filter_map table_in s.lists.parts ++ s.tables
  pub latches : filter_map latch_in later.lists.parts ++ later.latches ≡ filter_map latch_in s.lists.parts ++ s.latches
  pub instances : filter_map instance_in later.lists.parts ++ later.instances ≡ filter_map instance_in s.lists.parts ++ s.instances
  pub letters : (more : List ℕ) → s.letters ≡ tables_letters s.tables ++ more → later.letters ≡ tables_letters later.tables ++ more

pub record IsReached (s next : Pushing) : Type 0 where
  pub pushing : IsPushing next
  pub later : IsLater s next

-- one of the parts that were to come is there, or more
pub record IsNext (s next : Pushing) : Type 0 where
  pub reached : IsReached s next
  pub fewer : left_of next < left_of s

-- a part of this kind is to come
abbrev pub IsToCome : List TableData → List Latch → List InstanceData → Due → Type 0
IsToCome tables latches instances due.Table = tables ≢ []
IsToCome tables latches instances due.Latch = latches ≢ []
IsToCome tables latches instances due.Instance = instances ≢ []

-- the lists with one more model
abbrev pub model_added : OpenLists → BlifModelData → OpenLists
model_added lists m = record lists { models = lists.models ++ m ∷ [] }
