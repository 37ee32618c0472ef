-- A text that was written is read as the design that it was written from, and what a text reads as can be written.
use Rattle.std.specs.Prelude.{◌≡◌, ℕ, List, [], Result, Ok, Err}
use Rattle.v_tree.specs.declared.items.VDesign.{VDesign}
use Rattle.v_tree.specs.Reading.{VReads}
use Rattle.v_writer.specs.Writing.{Writes}
use Rattle.v_reader.specs.declared.fails.ReadFail.{ReadFail}
use Rattle.v_reader.specs.declared.fails.ReadFail.TheVariants as F
use Rattle.v_reader.specs.Refusing.{ReadGives, Refused}

-- the design itself, unless memory is wanting
abbrev pub ReadsBack : VDesign → Result VDesign ReadFail → Type 0
ReadsBack e (Ok f) = f ≡ e
ReadsBack e (Err F.Memory) = Unit {0}
ReadsBack e (Err (F.NotVerilog rule line col word)) = ⊥

-- whatever the writer wrote of a design and the reader gave for it
abbrev pub WrittenReadsBack : Type 0
WrittenReadsBack = (e : VDesign) (text : List ℕ) (read : Result VDesign ReadFail) → Writes e [] text → ReadGives text read → ReadsBack e read

-- what is written of the design that the bytes read as
pub record Rewritten (bytes text : List ℕ) : Type 0 where
  pub design : VDesign
  pub reads : VReads bytes design
  pub writes : Writes design [] text

-- what writing a text again gives: nothing where it isn't read, for the reader's reason
abbrev pub RewriteGives : List ℕ → Result (List ℕ) ReadFail → Type 0
RewriteGives bytes (Ok text) = Rewritten bytes text
RewriteGives bytes (Err F.Memory) = Unit {0}
RewriteGives bytes (Err (F.NotVerilog rule line col word)) = Refused bytes rule line col word

-- What a text is written as reads as the design that the text reads as, and as no other; written again it stays as it is.
pub record KeepsReading (bytes text : List ℕ) : Type 0 where
  pub design : (e : VDesign) → VReads bytes e → VReads text e
  pub no_other : (e : VDesign) → VReads text e → VReads bytes e
  pub stays : (again : List ℕ) → Rewritten text again → again ≡ text

abbrev pub RewrittenKeepsReading : Type 0
RewrittenKeepsReading = (bytes text : List ℕ) → Rewritten bytes text → KeepsReading bytes text
