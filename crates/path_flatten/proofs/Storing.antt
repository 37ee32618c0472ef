-- Bits as a type stores them.
use Rattle.std.proofs.Common.{◌≡◌, ℕ, zero, suc, ◌+◌, ◌<◌, ◌≤◌, Bool, true, false, List, [], ◌∷◌, ◌++◌, length, replicate, refl, arith, ap, sym, ◌∙◌, subst}
use Rattle.std.specs.Prelude.{slice_index_or}
use Rattle.b4_core.specs.declared.bit.Bit4.{Bit4}
use Rattle.b4_core.specs.declared.bit.Bit4.TheVariants.{Zero, X}
use Rattle.b4_core.specs.Vectors.{ext}
use Rattle.row_machine.specs.Valuation.{Valuation}
use Rattle.picks.specs.Windows.{tabulated, seen}
use Rattle.sv_types.specs.declared.types.SvType.{SvType}
use Rattle.sv_types.specs.Layouts.{Layout, layout, width_of, stored, stored_bit}
use Rattle.sv_types.specs.Surroundings.{Around}
use Rattle.sv_types.specs.Meanings as S
use Rattle.sv_types.proofs.Picks.{length-tabulated}
use Rattle.sv_types.proofs.Stored.{length-stored}
use Rattle.v_tree.specs.Names.{Name}
use Rattle.v_tree.specs.Printing.{helper_text}
use Rattle.v_tree.specs.declared.names.Helper.{Helper}
use Rattle.v_tree.specs.declared.names.HelperKind.TheVariants.{TwoState}
use Rattle.v_meaning.specs.Scopes.{Scope}
use Rattle.v_meaning.specs.Values as T
use Rattle.v_meaning.specs.Values.{meaning}
use Rattle.eval_parts.specs.Places.{window_of}
use Rattle.two_state.specs.Kinds.{Helps}
use Rattle.two_state.specs.Kinds as K
use Rattle.lowering_laws.specs.Helpers.{Stores}
use Rattle.lowering_laws.specs.Images.{raw}
use Rattle.lowering_laws.specs.Same.{Same, HasBits}
use Rattle.lowering_laws.specs.Steps.{AllFour}
use Rattle.lowering_laws.proofs.Constants.{number-same, signed-same}
use Rattle.lowering_laws.proofs.Paths.{length-raw, stored-four-bits, path-alone, path-itself}
use Rattle.path_flatten.specs.declared.readings.Reading.{Reading}
use Rattle.path_flatten.specs.Helping.{EachHelps, IsSized, Grows}
use Rattle.path_flatten.specs.Reading.{StaysIn}
use Rattle.path_flatten.specs.Selecting.{ReadsAll}
use Rattle.path_flatten.specs.Storing.{AllAre, stored_at, signed_as, IsHelperCall, StoresBits, ReadsPath}
use Rattle.path_flatten.proofs.Helping.{helped, helps-before}
use Rattle.path_flatten.proofs.Sees.{sees-seen}
use Rattle.path_flatten.proofs.Selecting.{given-bits}

length-replicate : (n : ℕ) → length (replicate n true) ≡ n
length-replicate zero = refl
length-replicate (suc n) = ap suc (length-replicate n)

-- what stores x as x is four-state, and what stores it as 0 is two-state
four-head : (b : Bool) → stored_bit b X ≡ X → b ≡ false
four-head true h = absurd (cc)
four-head false h = refl

two-head : (b : Bool) → stored_bit b X ≡ Zero → b ≡ true
two-head true h = refl
two-head false h = absurd (cc)

head-same : (a b : Bit4) (x y : List Bit4) → (a ∷ x) ≡ (b ∷ y) → a ≡ b
head-same a b x y h = cc

rest-same : (a b : Bit4) (x y : List Bit4) → (a ∷ x) ≡ (b ∷ y) → x ≡ y
rest-same a b x y h = cc

pub are-all : (b : Bit4) (xs : List Bit4) → AllAre b xs → xs ≡ replicate (length xs) b
are-all b [] h = refl
are-all b (x ∷ xs) h = λ i. h.0 i ∷ are-all b xs h.1 i

pub all-four : (bs : List Bool) → stored bs (replicate (length bs) X) ≡ replicate (length bs) X → AllFour bs
all-four [] h = tt
all-four (b ∷ bs) h = (four-head b (head-same _ _ _ _ h), all-four bs (rest-same _ _ _ _ h))

pub all-two : (bs : List Bool) → stored bs (replicate (length bs) X) ≡ replicate (length bs) Zero → bs ≡ replicate (length bs) true
all-two [] h = refl
all-two (b ∷ bs) h = λ i. two-head b (head-same _ _ _ _ h) i ∷ all-two bs (rest-same _ _ _ _ h) i

pub tabulated-cong : (n : ℕ) (f g : ℕ → Bit4) → ((j : ℕ) → j < n → f j ≡ g j) → tabulated n f ≡ tabulated n g
tabulated-cong zero f g h = refl
tabulated-cong (suc n) f g h = λ i. h 0 (omega arith) i ∷ tabulated-cong n (λ j. f (suc j)) (λ j. g (suc j)) (λ j less. h (suc j) (omega arith)) i

pub stored-tabulated : (bs : List Bool) (c : List Bit4) (n : ℕ) → length bs ≡ n → length c ≡ n → stored bs c ≡ tabulated n (stored_at bs c)
stored-tabulated [] c zero h g = refl
stored-tabulated [] c (suc n) h g = absurd (omega arith)
stored-tabulated (b ∷ bs) c zero h g = absurd (omega arith)
stored-tabulated (b ∷ bs) [] (suc n) h g = absurd (omega arith)
stored-tabulated (b ∷ bs) (x ∷ c) (suc n) h g = ap (λ y. stored_bit b x ∷ y) (stored-tabulated bs c n (omega arith) (omega arith))

-- two parts of a vector, side by side
pub tabulated-split : (m n : ℕ) (f : ℕ → Bit4) → tabulated (m + n) f ≡ tabulated m f ++ tabulated n (λ j. f (m + j))
tabulated-split zero n f =
    let none : 0 + n ≡ n = omega arith in
    ap (λ k. tabulated k f) none ∙ tabulated-cong n f (λ j. f (0 + j)) (λ j less. ap f (omega arith))
tabulated-split (suc m) n f =
    let next : suc m + n ≡ suc (m + n) = omega arith in
    ap (λ k. tabulated k f) next
    ∙ ap (λ y. f 0 ∷ y) (tabulated-split m n (λ j. f (suc j))
    ∙ ap (λ z. tabulated m (λ j. f (suc j)) ++ z) (tabulated-cong n (λ j. f (suc (m + j))) (λ j. f (suc m + j)) (λ j less. ap f (omega arith))))

-- bits of one kind of store, as they are cut out
pub run-four : (bs : List Bool) (c : List Bit4) (low n : ℕ) → ((j : ℕ) → j < n → slice_index_or bs (low + j) false ≡ false)
    → tabulated n (λ j. slice_index_or c (low + j) X) ≡ tabulated n (λ j. stored_at bs c (low + j))
run-four bs c low n four = tabulated-cong n _ _ (λ j less. sym (ap (λ b. stored_bit b (slice_index_or c (low + j) X)) (four j less)))

stored-all : (n : ℕ) (f : ℕ → Bit4) → stored (replicate n true) (tabulated n f) ≡ tabulated n (λ j. stored_bit true (f j))
stored-all zero f = refl
stored-all (suc n) f = ap (λ y. stored_bit true (f 0) ∷ y) (stored-all n (λ j. f (suc j)))

pub run-two : (bs : List Bool) (c : List Bit4) (low n : ℕ) → ((j : ℕ) → j < n → slice_index_or bs (low + j) false ≡ true)
    → stored (replicate n true) (tabulated n (λ j. slice_index_or c (low + j) X)) ≡ tabulated n (λ j. stored_at bs c (low + j))
run-two bs c low n two =
    stored-all n (λ j. slice_index_or c (low + j) X)
    ∙ tabulated-cong n _ _ (λ j less. sym (ap (λ b. stored_bit b (slice_index_or c (low + j) X)) (two j less)))

-- a call of a helper that stores bits
store-call : (name : Name) (m : T.Meaning) (bs : List Bool) (c : List Bit4) (n : ℕ) (sc : Scope) (v : Valuation) → Stores bs (sc.callee name) → length bs ≡ n → length c ≡ n
    → HasBits m c sc v → HasBits (T.call name (m ∷ [])) (stored bs c) sc v
unfolding T.call
store-call name m bs c n sc v helps size long has =
    let f = sc.callee name in
    let given : T.given m (length bs) sc v ≡ c = given-bits m c (length bs) sc v has (long ∙ sym size) in
    record {
      width = helps.width ∙ sym (length-stored bs c (long ∙ sym size));
      unsigned = refl;
      value = λ y s.
          ap (λ is. ext y s (f.run v (T.arguments is (m ∷ []) sc v))) helps.inputs
          ∙ (λ i. ext y s (f.run v (given i ∷ [])))
          ∙ ap (ext y s) (helps.run v c (long ∙ sym size));
    }

pub two-call : (n : ℕ) (h : Helper) (m : T.Meaning) (hs : List Helper) (r : T.Meaning) (c : List Bit4) (sc : Scope) (v : Valuation) → h ≡ record { kind = TwoState; width = n } → 1 ≤ n
    → IsHelperCall h m hs r → HasBits m c sc v → length c ≡ n → EachHelps hs sc → HasBits r (stored (replicate n true) c) sc v
two-call n h m hs r c sc v is some call has long helps =
    let size : h.width ≡ n = ap (λ (x : Helper). x.width) is in
    let kind : h.kind ≡ TwoState = ap (λ (x : Helper). x.kind) is in
    let sized : IsSized h = (omega arith, subst K.HasBits (sym kind) tt) in
    let there : Stores (replicate n true) (sc.callee (helper_text h)) =
    subst (λ (x : Helper). Helps x.kind x.width (sc.callee (helper_text h))) is (helped hs sc h helps (call.there sized)) in
    subst (λ (y : T.Meaning). HasBits y (stored (replicate n true) c) sc v) (sym call.is)
    (store-call (helper_text h) m (replicate n true) c n sc v there (length-replicate n) long has)

-- bits of four-state types are stored as they are, and those of two-state ones by one call
pub stores-four : (t : SvType) (m : T.Meaning) (hs : List Helper) (marks : List Bit4) → marks ≡ stored (layout t).two_state (replicate (width_of t) X) → marks ≡ replicate (width_of t) X
    → StoresBits t m hs m
stores-four t m hs marks is four c sc v has long some helps =
    subst (λ x. HasBits m x sc v) (sym (stored-four-bits (layout t).two_state c (all-four (layout t).two_state (sym is ∙ four)) long)) has

pub stores-two : (t : SvType) (h : Helper) (m : T.Meaning) (hs : List Helper) (r : T.Meaning) (marks : List Bit4) → marks ≡ stored (layout t).two_state (replicate (width_of t) X)
    → marks ≡ replicate (width_of t) Zero → h ≡ record { kind = TwoState; width = width_of t } → IsHelperCall h m hs r → StoresBits t m hs r
stores-two t h m hs r marks is two helper call c sc v has long some helps =
    let all = all-two (layout t).two_state (sym is ∙ two) in
    subst (λ bs. HasBits r (stored bs c) sc v) (sym all) (two-call (width_of t) h m hs r c sc v helper some call has long helps)

-- what is read, with a sign
signs : (e : S.Meaning) (w : ℕ) (s : Bool) (a : Around) (b : Bool) (m : T.Meaning) (sc : Scope) (v : Valuation) → S.signed e ≡ b → HasBits m (S.alone e a) sc v → length (S.alone e a) ≡ S.wide e
    → ext w s (S.alone e a) ≡ e.value w s a → Same e w s a (signed_as b m) sc v
signs e w s a true m sc v sign has long value =
    subst (λ b. Same e w s a (T.signing b m) sc v) sign (signed-same e (S.alone e a) w s a m sc v has (omega arith) (omega arith) value)
signs e w s a false m sc v sign has long value = number-same e (S.alone e a) w s a m sc v has (omega arith) (omega arith) value sign

pub path-read : (r : Reading) (t : SvType) (old hs : List Helper) (bits kept m : T.Meaning) → width_of t ≤ 4194304 → ReadsAll r (width_of t) old bits → Grows old hs → StoresBits t bits hs kept
    → m ≡ signed_as (layout t).signed kept → ReadsPath r t hs m
path-read r t old hs bits kept m narrow all grows stores is e a sc v of path some reads helps w s =
    let n = width_of t in
    let wide : S.wide e ≡ width_of t = ap (λ (l : Layout). length l.two_state) of in
    let marks : e.of.two_state ≡ (layout t).two_state = ap (λ (l : Layout). l.two_state) of in
    let has = all reads.bits sc v reads.root reads.long reads.inside (omega arith) narrow (subst (StaysIn (window_of r.window)) wide reads.stays) (helps-before old hs sc grows helps) in
    let same : raw e a ≡ seen reads.bits (window_of r.window) (width_of t) = sees-seen (e.base a) reads.bits (e.window a) (window_of r.window) (S.wide e) reads.sees ∙ ap (seen reads.bits (window_of r.window)) wide in
    let held = stores (seen reads.bits (window_of r.window) (width_of t)) sc v has (length-tabulated n _) (omega arith) helps in
    let value : S.alone e a ≡ stored (layout t).two_state (seen reads.bits (window_of r.window) (width_of t)) = path-alone e a path ∙ (λ i. stored (marks i) (same i)) in
    subst (λ (y : T.Meaning). Same e w s a y sc v) (sym is)
    (signs e w s a (layout t).signed kept sc v (ap (λ (l : Layout). l.signed) of) (subst (λ x. HasBits kept x sc v) (sym value) held)
    (ap length (path-alone e a path) ∙ length-stored e.of.two_state (raw e a) (length-raw e a)) (sym (path-itself e a path w s)))
