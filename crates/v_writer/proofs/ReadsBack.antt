-- A written text spells its design.
use Rattle.std.proofs.Common.{◌≡◌, ℕ, suc, ◌+◌, true, false, List, [], ◌∷◌, map, length, None, refl, sym, ap, subst, ◌∙◌}
use Rattle.std.proofs.lemmas.List.{append-nil}
use Rattle.ll_engine.specs.declared.table.Part.TheVariants.{Non, Many}
use Rattle.ll_engine.specs.declared.tree.Tree.{Tree}
use Rattle.ll_engine.specs.declared.tree.Tree.TheVariants.{Node}
use Rattle.ll_engine.specs.Grammar.{IsBlank, Begins, IsBegun}
use Rattle.ll_engine.specs.Reading.{Nested, next, Reads}
use Rattle.ll_engine.specs.Texts.{IsText}
use Rattle.v_tree.specs.declared.items.VDesign.{VDesign}
use Rattle.v_tree.specs.declared.items.VModule.{VModule}
use Rattle.v_tree.specs.declared.parts.VPart.TheVariants as P
use Rattle.v_tree.specs.Heads as head
use Rattle.v_tree.specs.Parts.{as_module}
use Rattle.v_tree.specs.Symbols.{symbol}
use Rattle.v_tree.specs.Table.{table}
use Rattle.v_tree.specs.Tokens.{Token, tokens}
use Rattle.v_tree.specs.Grammatical.{is_of_grammar}
use Rattle.v_tree.specs.Meaning.{text_of as text_meaning, part_of}
use Rattle.v_tree.specs.Reading.{Spells}
use Rattle.v_tree.proofs.Derivations.{node-part}
use Rattle.v_tree.proofs.Rows as Rows
use Rattle.v_writer.specs.Layout.{tokens_of, in_turn, module_line, text_layout, text_of}
use Rattle.v_writer.proofs.Phrases.{Phrase, front, next-front}
use Rattle.v_writer.proofs.WrittenExprs.{all-made}
use Rattle.v_writer.proofs.WrittenItems.{modules-read, modules-on}

-- a text without modules is empty, and any other begins with a module
text-read : (ms : List VModule) (w : List Nested) (trees : List Tree) (to : ℕ)
    → next w ≡ front (tokens_of (in_turn (map module_line ms))) None
    → Reads table suc 0 0 (Many head.module_declaration ∷ []) 0 w trees to []
    → Reads table suc 0 0 (Non head.source_text ∷ []) 0 w (Node 0 trees ∷ []) to []
text-read [] w trees to e h =
    Reads.empty refl refl (λ b. subst (λ x. IsBegun table (Non head.source_text ∷ []) x) e b) Rows.row_text (IsBlank.skipped refl IsBlank.nothing) refl h
    (Reads.ended refl refl)
text-read (m ∷ ms) w trees to e h =
    Reads.taken refl Rows.row_text
    (subst (λ x. IsBegun table (Many head.module_declaration ∷ []) x) (sym e) (Begins.inside refl Rows.row_module (Begins.itself refl))) refl refl h
    (Reads.ended refl refl)

module _ (d : VDesign) (good : is_of_grammar d ≡ true) where
  abbrev pub text : List ℕ
  text = text_of d

  abbrev laid_out : List Token
  laid_out = tokens_of (text_layout d)

  text-tokens : tokens text ≡ laid_out
  text-tokens = modules-on (tokens text) d.modules good false

  phrase : Phrase (tokens text) 0 0 (Many head.module_declaration ∷ []) laid_out None (map P.Module d.modules)
  phrase = modules-read (tokens text) d.modules good

  derivation : Tree
  derivation = Node 0 (phrase.trees 0)

  is-text : IsText table phrase.text derivation
  unfolding derivation
  is-text = record {
    head = head.source_text;
    row = _;
    is_first = Rows.row_text;
    to = _;
    reads = text-read d.modules phrase.text (phrase.trees 0) (length laid_out + 0)
        (ap next (sym (append-nil phrase.text)) ∙ next-front phrase.text [] laid_out None phrase.spells refl)
        (subst (λ w. Reads table suc 0 0 (Many head.module_declaration ∷ []) 0 w (phrase.trees 0) (length laid_out + 0) [])
        (append-nil phrase.text) (phrase.reads 0 [] refl));
  }

  means : part_of (tokens text) derivation ≡ P.Text d.modules
  unfolding derivation
  means =
      node-part (tokens text) 0 (phrase.trees 0)
      ∙ ap text_meaning (phrase.means 0 [] (text-tokens ∙ sym (append-nil laid_out)) ∙ sym (append-nil (map P.Module d.modules)))
      ∙ ap P.Text (all-made as_module P.Module (λ x. refl) d.modules [] ∙ append-nil d.modules)

  pub written_spells : Spells text d
  written_spells = record {
    tree = derivation;
    reading = record { text = phrase.text; is_text = is-text; spells = phrase.spells ∙ ap (map symbol) (sym text-tokens); within = phrase.within };
    means = means;
  }
