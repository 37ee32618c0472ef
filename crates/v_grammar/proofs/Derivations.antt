-- A derivation means a design of the grammar.
use Rattle.std.proofs.Common.{◌≡◌, ◌≤◌, ◌==◌, ◌+◌, ℕ, zero, suc, Bool, true, false, if◌then◌else◌, List, [], ◌∷◌, ◌++◌, map, drop, Option, Some, None, refl, sym, ap, ◌∙◌, subst, arith, slice_get}
use Rattle.std.specs.List.{list_all}
use Rattle.ll_engine.specs.declared.table.Part.{Part}
use Rattle.ll_engine.specs.declared.table.Part.TheVariants.{Term, Non, Maybe, Many, Chain}
use Rattle.ll_engine.specs.declared.table.Row.{Row}
use Rattle.ll_engine.specs.declared.tree.Tree.{Tree}
use Rattle.ll_engine.specs.declared.tree.Tree.TheVariants.{Leaf, Node}
use Rattle.ll_engine.specs.Grammar.{terminal, named, is_optional, IsRowOf, Begins, IsBegun}
use Rattle.ll_engine.specs.Reading.{Nested, at_nesting, next, level, left_after, Reads}
use Rattle.ll_engine.specs.Texts.{symbol_of, Within}
use Rattle.v_tree.specs.declared.items.VDesign.{VDesign}
use Rattle.v_tree.specs.declared.items.VModule.{VModule}
use Rattle.v_tree.specs.declared.parts.VPart.{VPart}
use Rattle.v_tree.specs.declared.parts.VPart.TheVariants as P
use Rattle.v_tree.specs.Grammatical.{is_module, is_of_grammar}
use Rattle.v_tree.specs.Meaning.{row_meanings, by_row, token_part, part_of}
use Rattle.v_tree.specs.Names.{position}
use Rattle.v_tree.specs.Reading.{nesting_limit, Spells}
use Rattle.v_tree.specs.Symbols.{spelled, symbol}
use Rattle.v_tree.specs.Table.{table}
use Rattle.v_tree.specs.Tokens.{Token, tokens}
use Rattle.v_tree.proofs.Derivations.{leaf-part, node-part}
use Rattle.v_tree.proofs.Induction.{Each}
use Rattle.v_grammar.proofs.Chains.{row-gives}
use Rattle.v_grammar.proofs.Meant.{Kind, make, kind_of, Good, All, of-good, made, OfToken, Gives}
use Rattle.v_grammar.proofs.Tokens.{TokenFits, tokens-fit}

-- what a token gives
spelled-gives : (n : ℕ) (C : VPart → Type 0) → OfToken (5 + n) C → C P.Nothing
spelled-gives n C h =
    let five : 5 + n ≡ suc (suc (suc (suc (suc n)))) = omega arith in
    subst (λ k. OfToken k C) five h

decimal-gives : (b : Bool) (value : ℕ) (C : VPart → Type 0) → TokenFits (Token.decimal value) → OfToken (if b then 4 else 3) C → C (P.Decimal value)
decimal-gives true value C fits h = h value fits
decimal-gives false value C fits h = h value fits

token-gives : (t : Token) (C : VPart → Type 0) → TokenFits t → OfToken (symbol t) C → C (token_part (Some t))
token-gives (Token.name bytes) C fits h = h bytes fits
token-gives (Token.number bits) C fits h = h bits fits
token-gives (Token.decimal value) C fits h = decimal-gives (value == 0) value C fits h
token-gives (Token.word bytes) C fits h = spelled-gives (position spelled bytes) C h
token-gives (Token.mark bytes) C fits h = spelled-gives (position spelled bytes) C h
token-gives Token.stray C fits h = h

-- What stands in front of the parts of a row gives what is left of it.
module _ (k : Kind) (d e : ℕ) (y : Option ℕ) where
  -- a symbol
  token-step : (p : Part) (ps : List Part) (x m : Option ℕ) (f : List VPart → VPart) (t : Token) (s : ℕ) → terminal p ≡ Some s → symbol t ≡ s → TokenFits t → e ≤ nesting_limit
      → Gives k d e y (p ∷ ps) x f → Gives k d e y ps m (λ us. f (token_part (Some t) ∷ us))
  token-step (Term a) ps x m f t s is same fits room g =
      let alike : symbol t ≡ a = cc in
      token-gives t (λ v. Gives k d e y ps m (λ us. f (v ∷ us))) fits (subst (λ j. OfToken j (λ v. Gives k d e y ps m (λ us. f (v ∷ us)))) (sym alike) (g m room))
  token-step (Non a) ps x m f t s is same fits room g = absurd (cc)
  token-step (Maybe a) ps x m f t s is same fits room g = absurd (cc)
  token-step (Many a) ps x m f t s is same fits room g = absurd (cc)
  token-step (Chain a) ps x m f t s is same fits room g = absurd (cc)

  module _ (ps : List Part) (x m : Option ℕ) (f : List VPart → VPart) (h : ℕ) (v : VPart) where
    abbrev Behind : VPart → Type 0
    Behind w = Gives k d e y ps m (λ us. f (w ∷ us))

    given : (a : ℕ) → a ≡ h → Good (kind_of h) e m v → All (kind_of a) e m Behind → Behind v
    given a alike good g = of-good (kind_of h) e m Behind v good (subst (λ j. All (kind_of j) e m Behind) alike g)

    again : (a : ℕ) → Good (kind_of a) e m v → Gives k d e y (Many a ∷ ps) x f → Gives k d e y (Many a ∷ ps) m (λ us. f (v ∷ us))
    again a good g =
        λ xs hs z. subst (λ w. Gives k d e y ps z (λ us. f (w ∷ (map (make (kind_of a)) xs ++ us)))) (sym good.is)
        (g (good.of ∷ xs) (record { after = m; holds = good.holds }, hs) z)

    -- a head
    part-step : (p : Part) (turn : ℕ) → named p ≡ Some h → IsBegun table (p ∷ []) x → Good (kind_of h) (level suc p e turn) m v
        → Gives k d e y (p ∷ ps) x f → Gives k d e y (left_after p ps) m (λ us. f (v ∷ us))
    part-step (Term a) turn is begun good g = absurd (cc)
    part-step (Non a) turn is begun good g = let alike : a ≡ h = cc in given a alike good (g m)
    part-step (Maybe a) turn is begun good g = let alike : a ≡ h = cc in given a alike good (g.0 begun m)
    part-step (Many a) turn is begun good g =
        let alike : h ≡ a = cc in
        again a (subst (λ j. Good (kind_of j) e m v) alike good) g
    part-step (Chain a) turn is begun good g = absurd g

    -- a head that is read as empty
    empty-step : (p : Part) → is_optional p ≡ false → named p ≡ Some h → Good (kind_of h) e m v → Gives k d e y (p ∷ ps) x f → Behind v
    empty-step (Term a) o is good g = absurd (cc)
    empty-step (Non a) o is good g = let alike : a ≡ h = cc in given a alike good (g m)
    empty-step (Maybe a) o is good g = absurd (cc)
    empty-step (Many a) o is good g = absurd (cc)
    empty-step (Chain a) o is good g = absurd (cc)

  -- a part that is left out
  out-step : (p : Part) (ps : List Part) (x : Option ℕ) (f : List VPart → VPart) → is_optional p ≡ true → (IsBegun table (p ∷ []) x → ⊥)
      → Gives k d e y (p ∷ ps) x f → Gives k d e y ps x f
  out-step (Term a) ps x f o none g = absurd (cc)
  out-step (Non a) ps x f o none g = absurd (cc)
  out-step (Maybe a) ps x f o none g = g.1 none
  out-step (Many a) ps x f o none g = g [] tt x
  out-step (Chain a) ps x f o none g = absurd g

begun-by : (p : Part) (h i : ℕ) (row : Row) (x : Option ℕ) → named p ≡ Some h → IsRowOf table h i row → IsBegun table row.parts x → IsBegun table (p ∷ []) x
begun-by p h i row None is r b = b
begun-by p h i row (Some a) is r b = Begins.inside is r b

-- the tokens from a place on
record Found (all : List Token) (at s : ℕ) (w : List Nested) : Type 0 where
  token : Token
  is_there : slice_get all at ≡ Some token
  same : symbol token ≡ s
  fits : TokenFits token
  behind : map symbol_of w ≡ map symbol (drop (suc at) all)

found : (all : List Token) (at s n : ℕ) (w : List Nested) → Each TokenFits all → map symbol_of (at_nesting s n ∷ w) ≡ map symbol (drop at all) → Found all at s w
found [] zero s n w fits is = absurd (cc)
found [] (suc at) s n w fits is = absurd (cc)
found (t ∷ all) zero s n w fits is =
    let same : symbol t ≡ s = cc in
    let behind : map symbol_of w ≡ map symbol all = cc in
    record { token = t; is_there = refl; same = same; fits = fits.0; behind = behind }
found (t ∷ all) (suc at) s n w fits is =
    let rest = found all at s n w fits.1 is in
    record { token = rest.token; is_there = rest.is_there; same = rest.same; fits = rest.fits; behind = rest.behind }

-- what a derivation of these tokens means
module _ (all : List Token) (fits : Each TokenFits all) where
  abbrev Spelled : ℕ → List Nested → Type 0
  Spelled at w = map symbol_of w ≡ map symbol (drop at all)

  record Read (k : Kind) (d : ℕ) (v : VPart) (to : ℕ) (rest : List Nested) : Type 0 where
    good : Good k d (next rest) v
    spelled : Spelled to rest
    within : Within nesting_limit rest

  node-good : (h i e : ℕ) (row : Row) (kids : List Tree) (x : Tree) (y : Option ℕ) → IsRowOf table h i row → x ≡ Node i kids
      → Good (kind_of row.head) e y (by_row (slice_get row_meanings i) (map (part_of all) kids)) → Good (kind_of h) e y (part_of all x)
  node-good h i e row kids x y r is good =
      subst (λ v. Good (kind_of h) e y v) (sym (ap (part_of all) is ∙ node-part all i kids)) (subst (λ j. Good (kind_of j) e y (by_row (slice_get row_meanings i) (map (part_of all) kids))) r.is_of good)

  leaf-is : (x : Tree) (at : ℕ) (t : Token) → x ≡ Leaf at → slice_get all at ≡ Some t → token_part (Some t) ≡ part_of all x
  leaf-is x at t is there = sym (ap (part_of all) is ∙ leaf-part all at ∙ ap token_part there)

  reads-good : (k : Kind) (d : ℕ) (f : List VPart → VPart) {e turn at to : ℕ} {ps : List Part} {w rest : List Nested} {ts : List Tree}
      → Reads table suc e turn ps at w ts to rest → Spelled at w → Within nesting_limit w → Gives k d e (next rest) ps (next w) f → Read k d (f (map (part_of all) ts)) to rest
  reads-good k d f {at = at} {rest = rest} (Reads.ended a b) told within g = record {
    good = g (ap next b);
    spelled = subst (λ n. Spelled n rest) a (subst (λ v. Spelled at v) b told);
    within = subst (λ v. Within nesting_limit v) b within;
  }
  reads-good k d f {e = e} {at = at} {rest = rest} (Reads.symbol {s = s} {n = n} {p = p} {ps = ps} {w = w} {x = x} is depth l r) told within g =
      let it = found all at s n w fits told in
      let room = subst (λ j. j ≤ nesting_limit) depth within.0 in
      reads-good k d (λ us. f (part_of all x ∷ us)) r it.behind within.1
      (subst (λ v. Gives k d e (next rest) ps (next w) (λ us. f (v ∷ us))) (leaf-is x at it.token l it.is_there)
      (token-step k d e (next rest) p ps (Some s) (next w) f it.token s is it.same it.fits room g))
  reads-good k d f {e = e} {turn = turn} {rest = rest} (Reads.taken {n = n} {h = h} {i = i} {p = p} {ps = ps} {row = row} {w = w} {u = u} {x = x} {kids = kids} is r begun l node inner behind) told within g =
      let kid = reads-good (kind_of row.head) n (by_row (slice_get row_meanings i)) inner told within (row-gives i row r.is_there n (next w) (next u)) in
      let good = node-good h i n row kids x (next u) r node kid.good in
      reads-good k d (λ us. f (part_of all x ∷ us)) behind kid.spelled kid.within
      (part-step k d e (next rest) ps (next w) (next u) f h (part_of all x) p turn is (begun-by p h i row (next w) is r begun)
      (subst (λ j. Good (kind_of h) j (next u) (part_of all x)) l good) g)
  reads-good k d f {e = e} {rest = rest} (Reads.left_out {p = p} {ps = ps} {w = w} o ends r) told within g =
      reads-good k d f r told within (out-step k d e (next rest) p ps (next w) f o ends g)
  reads-good k d f {e = e} {rest = rest} (Reads.empty {h = h} {i = i} {p = p} {ps = ps} {row = row} {w = w} {u = u} {x = x} {kids = kids} o is ends r blank node inner behind) told within g =
      let kid = reads-good (kind_of row.head) e (by_row (slice_get row_meanings i)) inner told within (row-gives i row r.is_there e (next w) (next u)) in
      let good = node-good h i e row kids x (next u) r node kid.good in
      reads-good k d (λ us. f (part_of all x ∷ us)) behind kid.spelled kid.within
      (empty-step k d e (next rest) ps (next w) (next u) f h (part_of all x) p o is good g)

-- the text's own part
abbrev first_part : List VPart → VPart
first_part [] = P.Nothing
first_part (v ∷ vs) = v

abbrev modules_of : VPart → List VModule
modules_of (P.Text ms) = ms
modules_of p = []

abbrev head_of : Option Row → ℕ
head_of None = 0
head_of (Some row) = row.head

head-is : (h : ℕ) (row : Row) → IsRowOf table h 0 row → kind_of h ≡ Kind.text
head-is h row r = let first : 0 ≡ h = ap head_of r.is_there ∙ r.is_of in ap kind_of (sym first)

text-is : (v : VPart) (ms : List VModule) → Good Kind.text 0 None v → v ≡ P.Text ms → list_all is_module ms ≡ true
text-is v ms good is = ap (list_all is_module) (sym (ap modules_of is) ∙ ap modules_of good.is) ∙ good.holds

-- A design that a text spells is one of the grammar.
pub spelled-of-grammar : (bytes : List ℕ) (e : VDesign) → Spells bytes e → is_of_grammar e ≡ true
spelled-of-grammar bytes e s =
    let read = reads-good (tokens bytes) (tokens-fit bytes) (kind_of s.reading.is_text.head) 0 first_part s.reading.is_text.reads s.reading.spells s.reading.within
    (λ m x h ends. subst (λ z. Good (kind_of s.reading.is_text.head) 0 z (make (kind_of s.reading.is_text.head) x)) ends (made (kind_of s.reading.is_text.head) 0 m x h)) in
    text-is (part_of (tokens bytes) s.tree) e.modules
    (subst (λ k. Good k 0 None (part_of (tokens bytes) s.tree)) (head-is s.reading.is_text.head s.reading.is_text.row s.reading.is_text.is_first) read.good) s.means
