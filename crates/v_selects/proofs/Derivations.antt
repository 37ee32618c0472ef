-- A derivation means a design with few selects.
use Rattle.std.proofs.Common.{◌≡◌, ◌≤◌, ℕ, suc, true, List, [], ◌∷◌, length, map, Option, Some, None, refl, sym, ap, ◌∙◌, subst, arith, slice_get}
use Rattle.std.proofs.lemmas.List.{length-map}
use Rattle.ll_engine.specs.declared.table.Part.{Part}
use Rattle.ll_engine.specs.declared.table.Part.TheVariants.{Term, Non, Maybe, Many, Chain}
use Rattle.ll_engine.specs.declared.table.Row.{Row}
use Rattle.ll_engine.specs.declared.tree.Tree.{Tree}
use Rattle.ll_engine.specs.declared.tree.Tree.TheVariants.{Leaf, Node}
use Rattle.ll_engine.specs.Grammar.{IsRowOf}
use Rattle.ll_engine.specs.Reading.{Nested, left_after, Reads}
use Rattle.v_tree.specs.declared.items.VDesign.{VDesign}
use Rattle.v_tree.specs.Meaning.{token_part, part_of}
use Rattle.v_tree.specs.Reading.{Spells}
use Rattle.v_tree.specs.Table.{table}
use Rattle.v_tree.specs.Tokens.{Token, tokens}
use Rattle.v_tree.proofs.Derivations.{leaf-part, node-part}
use Rattle.v_tree.proofs.Induction.{Each}
use Rattle.v_selects.specs.Few.{few_of_design}
use Rattle.v_selects.proofs.Parts.{IsFew, few_of_part}
use Rattle.v_selects.proofs.Rows.{none_repeated, all-rows, row-keeps}

token-few : (o : Option Token) → IsFew (token_part o)
token-few (Some (Token.name bytes)) = refl
token-few (Some (Token.number bits)) = refl
token-few (Some (Token.decimal value)) = refl
token-few (Some (Token.word bytes)) = refl
token-few (Some (Token.mark bytes)) = refl
token-few (Some Token.stray) = refl
token-few None = refl

-- parts of a row, of which none is repeated
record Once (p : Part) (ps : List Part) : Type 0 where
  after : left_after p ps ≡ ps
  rest : none_repeated ps ≡ true

once : (p : Part) (ps : List Part) → none_repeated (p ∷ ps) ≡ true → Once p ps
once (Term a) ps h = record { after = refl; rest = h }
once (Non a) ps h = record { after = refl; rest = h }
once (Maybe a) ps h = record { after = refl; rest = h }
once (Many a) ps h = absurd (cc)
once (Chain a) ps h = absurd (cc)

-- what a derivation of these tokens means
module _ (all : List Token) where
  abbrev TreeFew : Tree → Type 0
  TreeFew x = IsFew (part_of all x)

  each-part : (xs : List Tree) → Each TreeFew xs → Each IsFew (map (part_of all) xs)
  each-part [] h = tt
  each-part (x ∷ xs) h = (h.0, each-part xs h.1)

  -- the trees of parts of a row: no more than these where none is repeated
  record AllFew (ps : List Part) (ts : List Tree) : Type 0 where
    each : Each TreeFew ts
    short : none_repeated ps ≡ true → length ts ≤ length ps

  leaf-few : (x : Tree) (at : ℕ) → x ≡ Leaf at → TreeFew x
  leaf-few x at is = ap (λ y. few_of_part (part_of all y)) is ∙ ap few_of_part (leaf-part all at) ∙ token-few (slice_get all at)

  node-few : (x : Tree) (h i : ℕ) (row : Row) (kids : List Tree) → IsRowOf table h i row → x ≡ Node i kids → AllFew row.parts kids → TreeFew x
  node-few x h i row kids r is below =
      let long = length-map kids (part_of all) in
      ap (λ y. few_of_part (part_of all y)) is ∙ ap few_of_part (node-part all i kids)
      ∙ row-keeps i row all-rows r.is_there (map (part_of all) kids) (each-part kids below.each) (λ e. subst (λ n. n ≤ length row.parts) (sym long) (below.short e))

  one-more : (p : Part) (ps : List Part) (x : Tree) (ts : List Tree) → TreeFew x → AllFew (left_after p ps) ts → AllFew (p ∷ ps) (x ∷ ts)
  one-more p ps x ts f h = record {
    each = (f, h.each);
    short = λ e.
        (
        let o = once p ps e in
        let n : length ts ≤ length ps = subst (λ qs. length ts ≤ length qs) o.after (h.short (subst (λ qs. none_repeated qs ≡ true) (sym o.after) o.rest)) in
        omega (arith, n)
        );
  }

  one-and : (p : Part) (ps : List Part) (x : Tree) (ts : List Tree) → TreeFew x → AllFew ps ts → AllFew (p ∷ ps) (x ∷ ts)
  one-and p ps x ts f h = record {
    each = (f, h.each);
    short = λ e. (let n = h.short (once p ps e).rest in omega (arith, n));
  }

  one-less : (p : Part) (ps : List Part) (ts : List Tree) → AllFew ps ts → AllFew (p ∷ ps) ts
  one-less p ps ts h = record {
    each = h.each;
    short = λ e. (let n = h.short (once p ps e).rest in omega (arith, n));
  }

  reads-few : (g : ℕ → ℕ) {d e at to : ℕ} {ps : List Part} {w rest : List Nested} {ts : List Tree} → Reads table g d e ps at w ts to rest → AllFew ps ts
  reads-few g (Reads.ended a b) = record { each = tt; short = λ e. omega arith }
  reads-few g {at = at} (Reads.symbol {p = p} {ps = ps} {x = x} {ts = ts} f nd l r) = one-and p ps x ts (leaf-few x at l) (reads-few g r)
  reads-few g (Reads.taken {h = h} {i = i} {p = p} {ps = ps} {row = row} {x = x} {kids = kids} {ts = ts} nm s b l is inner behind) =
      one-more p ps x ts (node-few x h i row kids s is (reads-few g inner)) (reads-few g behind)
  reads-few g (Reads.left_out {p = p} {ps = ps} {ts = ts} o n r) = one-less p ps ts (reads-few g r)
  reads-few g (Reads.empty {h = h} {i = i} {p = p} {ps = ps} {row = row} {x = x} {kids = kids} {ts = ts} o nm n s b is inner behind) =
      one-and p ps x ts (node-few x h i row kids s is (reads-few g inner)) (reads-few g behind)

-- A design that a text spells has at most two selects behind each name.
pub spelled-few : (bytes : List ℕ) (e : VDesign) → Spells bytes e → few_of_design e ≡ true
spelled-few bytes e h =
    let f = reads-few (tokens bytes) suc h.reading.is_text.reads in
    ap few_of_part (sym h.means) ∙ f.each.0
