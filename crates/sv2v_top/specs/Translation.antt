-- What a translation is: of source tokens that are accepted the written text is right, and all others are refused with
-- their first break.
use Rattle.std.specs.Prelude.{◌≡◌, ◌⊎◌, ℕ, List, Some, Result, Ok, Err}
use Rattle.sv_source.specs.declared.token.Token.{Token}
use Rattle.sv_source.specs.declared.text.Text.{Text}
use Rattle.sv_source.specs.declared.refusal.Refusal.{Refusal}
use Rattle.sv_source.specs.declared.refusal.Fail.{Fail}
use Rattle.sv_source.specs.declared.refusal.Fail.TheVariants.{Memory, Refused}
use Rattle.sv_types.specs.declared.design.Design.{Design}
use Rattle.v_tree.specs.declared.items.VDesign.{VDesign}
use Rattle.sv_tree.specs.declared.units.SourceTree.{SourceTree}
use Rattle.sv_build.specs.Reading.{Reads, SyntaxBreak}
use Rattle.sv2v_top.specs.source.Answers.{tree_refusal, Elaborated}
use Rattle.v_tree.specs.Reading.{VReads}
use Rattle.lower_design.specs.Designs.{LowersDesign}

-- the tokens are accepted, and elaborate to this design
pub record Accepted (top : List ℕ) (tokens : List Token) (d : Design) : Type 0 where
  pub tree : SourceTree
  pub reads : Reads tokens tree
  pub elaborated : Elaborated tree top d

-- the tokens are refused: they don't read, or their tree breaks a rule
pub record Breaks (top : List ℕ) (tokens : List Token) (r : Refusal) : Type 0 where
  pub cause : SyntaxBreak tokens r ⊎ ((tree : SourceTree) × Reads tokens tree × (tree_refusal tree top ≡ Some r))

-- The written text is right for the design.
pub record Right (d : Design) (text : List ℕ) (e : VDesign) : Type 0 where
  -- it reads as this target design and no other, which breaks no rule on names and limits
  pub reads : VReads text e
  pub only : (f : VDesign) → VReads text f → f ≡ e
  -- and the target design is right: its shape, its traces and its rounds
  pub lowers : LowersDesign d e

-- the text is the translation of source tokens
pub record Translates (top : List ℕ) (tokens : List Token) (text : List ℕ) : Type 0 where
  pub source : Design
  pub accepted : Accepted top tokens source
  pub target : VDesign
  pub right : Right source text target

-- what the translation of source tokens answers
abbrev pub TranslationGives : List ℕ → List Token → Result Text Fail → Type 0
TranslationGives top tokens (Ok text) = Translates top tokens text
TranslationGives top tokens (Err Memory) = Unit {0}
TranslationGives top tokens (Err (Refused r)) = Breaks top tokens r
