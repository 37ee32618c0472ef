-- A text that was written is read as the design that it was written from, and what a text reads as can be written.
use Rattle.std.proofs.Common.{◌≡◌, ℕ, true, List, [], Ok, Err, sym, ap, ◌∙◌, subst}
use Rattle.v_tree.specs.declared.items.VDesign.{VDesign}
use Rattle.v_tree.specs.Grammatical.{is_of_grammar}
use Rattle.v_tree.specs.Reading.{VReads}
use Rattle.v_writer.specs.Layout.{text_of}
use Rattle.v_writer.specs.Writing.{Writes}
use Rattle.v_reader.specs.declared.fails.ReadFail.TheVariants as F
use Rattle.v_reader.proofs.OneAnswer.{one_answer}
use Rattle.v_grammar.proofs.Derivations.{spelled-of-grammar}
use Rattle.v_round_trip.specs.RoundTrip.{WrittenReadsBack, Rewritten, RewrittenKeepsReading}

reads : (e : VDesign) (text : List ℕ) → Writes e [] text → VReads text e
reads e text w = subst (λ (bytes : List ℕ). VReads bytes e) (sym w.is_added) w.reads

pub written_reads_back : WrittenReadsBack
written_reads_back e text (Ok f) w gives = (one_answer text).design f e gives (reads e text w)
written_reads_back e text (Err F.Memory) w gives = tt
written_reads_back e text (Err (F.NotVerilog rule line col word)) w gives = (one_answer text).read_or_refused e gives.token (reads e text w) gives.broken

-- what a text reads as is of the grammar
pub readable : (bytes : List ℕ) (e : VDesign) → VReads bytes e → is_of_grammar e ≡ true
readable bytes e h = spelled-of-grammar bytes e h.spells

one-design : (bytes : List ℕ) (e f : VDesign) → VReads bytes e → VReads bytes f → e ≡ f
one-design bytes e f a b = (one_answer bytes).design e f a b

stays-same : (bytes text again : List ℕ) → Rewritten bytes text → Rewritten text again → again ≡ text
stays-same bytes text again a b =
    b.writes.is_added ∙ ap text_of (one-design text b.design a.design b.reads (reads a.design text a.writes)) ∙ sym a.writes.is_added

pub rewritten_keeps_reading : RewrittenKeepsReading
rewritten_keeps_reading bytes text a = record {
  design = λ e h. subst (λ d. VReads text d) (one-design bytes a.design e a.reads h) (reads a.design text a.writes);
  no_other = λ e h. subst (λ d. VReads bytes d) (one-design text a.design e (reads a.design text a.writes) h) a.reads;
  stays = λ again b. stays-same bytes text again a b;
}
