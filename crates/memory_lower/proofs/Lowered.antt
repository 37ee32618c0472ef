-- Targets in the words of a memory stand for a path on an element of the signal.
use Rattle.std.proofs.Common.{◌≡◌, ℕ, Bool, true, false, List, [], ◌∷◌, ◌++◌, length, Option, refl, sym, subst}
use Rattle.b4_core.specs.declared.bit.Bit4.TheVariants.{Zero}
use Rattle.lowering_laws.specs.NamedImages.{AreImages}
use Rattle.lowering_laws.proofs.Naming.{both-images}
use Rattle.path_flatten.proofs.Naming.{same-itself, same-then, same-joined}
use Rattle.path_steps.proofs.PathNames.{images-like}
use Rattle.target_walk.specs.declared.never.Targets.{Targets}
use Rattle.target_walk.specs.Giving.{all_names}
use Rattle.target_walk.specs.Naming.{target_names}
use Rattle.case_targets.specs.Naming.{givens_for, Spread}
use Rattle.case_targets.specs.Spreading.{IsSet}
use Rattle.memory_targets.specs.Names.{word_names}
use Rattle.memory_lower.proofs.Naming.{word-named, names-in-word}
use Rattle.row_machine.specs.Valuation.{Valuation}
use Rattle.sv_types.specs.declared.expression.Expr.{Expr}
use Rattle.sv_types.specs.declared.statement.Function.{Function}
use Rattle.sv_types.specs.declared.types.SvType.{SvType}
use Rattle.sv_types.specs.Layouts.{layout, count_of, stored_bit}
use Rattle.sv_types.specs.Surroundings.{Around, local_number}
use Rattle.sv_types.specs.Meanings as S
use Rattle.sv_types.specs.Paths as P
use Rattle.sv_types.specs.Expressions.{meaning}
use Rattle.sv_types.proofs.ValueLengths.{length-value}
use Rattle.sv_types.proofs.Widths.{has-bits}
use Rattle.v_tree.specs.Names.{Name}
use Rattle.v_tree.specs.declared.names.Helper.{Helper}
use Rattle.v_tree.specs.declared.names.NameMap.{NameMap}
use Rattle.v_meaning.specs.Scopes.{Scope, named}
use Rattle.v_meaning.specs.Selects.{SelMeaning}
use Rattle.v_meaning.specs.Statements.{name_target}
use Rattle.v_meaning.specs.Values as T
use Rattle.lowering_laws.specs.Agreeing.{Images, AreDistinct, Agree}
use Rattle.path_flatten.specs.declared.offsets.Index.{Index}
use Rattle.path_flatten.specs.Helping.{EachHelps}
use Rattle.path_flatten.specs.Sliding.{IsIndexOf}
use Rattle.typed_paths.specs.Typed.{Indexing, IsTypedPath, IsTyped}
use Rattle.typed_paths.proofs.Opening.{stands-on}
use Rattle.target_flatten.specs.Owning.{AreUsesOf, AllWrite}
use Rattle.target_flatten.specs.Writing.{pieces, pieces_in, WritesPath}
use Rattle.target_walk.specs.declared.given.Given.{Given}
use Rattle.target_walk.specs.declared.given.Given.TheVariants as G
use Rattle.expr_lower.specs.Leaves.{Elements, leaves, Each}
use Rattle.expr_lower.specs.Lowering.{LeafStands, ShowsElements, IsShownInWords}
use Rattle.name_maps.specs.Named.{signal_name, is_memory, OneSignal}
use Rattle.expr_lower.specs.Paths.{Indexes}
use Rattle.target_lower.specs.declared.within.Within.{Within}
use Rattle.target_lower.specs.Made.{CallsFrom, StandsForIndex, AreMade}
use Rattle.target_lower.proofs.Making.{made-stand, made-named}
use Rattle.target_lower.proofs.Following.{indices-named}
use Rattle.memory_laws.specs.InWords.{Inner, IsMemoryOf, word_alone, word_pieces, SelectsWord, IsWrittenInWords}
use Rattle.memory_words.specs.Words.{NumbersWord}
use Rattle.memory_paths.proofs.Inner.{InnerPath, inner-path, inner-typed, outer-names}
use Rattle.memory_targets.specs.declared.words.Word.{Word}
use Rattle.memory_targets.specs.declared.words.Word.TheVariants as W
use Rattle.memory_targets.specs.Words.{word_sel, word_guard}
use Rattle.memory_targets.specs.Pieces.{inners}
use Rattle.memory_targets.proofs.Pieces.{words-are, targets-written, targets-change}
use Rattle.memory_targets.proofs.Selecting.{exact-selects, known-selects}
use Rattle.memory_lower.specs.Lowered.{StandsInMemory, LowersInMemory, IsWordFor, IsInWord}
use Rattle.memory_lower.specs.Made.{WordOf}
use Rattle.memory_lower.proofs.Inside.{Inside, inside, LeavesOf, leaves-of, stands-on-signal}

-- targets in a word may write the memory alone
word-writes : (name : Name) (s : SelMeaning) (sels : List SelMeaning) (sc : Scope) → AreUsesOf (named sc.names name).number ((name_target name (s ∷ sels)).writes sc)
unfolding name_target
word-writes name s sels sc = (refl, tt)

words-write : (name : Name) (g : Option T.Meaning) (s : SelMeaning) (xs : List Inner) (sc : Scope) → AllWrite (named sc.names name).number (word_pieces name g s xs) sc
words-write name g s [] sc = tt
words-write name g s (x ∷ xs) sc = (word-writes name s x.sels sc, words-write name g s xs sc)

-- the word of an index is selected
module _ (within : Within) (names : NameMap) (fs : List Function) (hs : List Helper) (im : Images) (a : Around) (sc : Scope) (calls : CallsFrom within fs a.callee) (helps : EachHelps hs sc) (t : SvType) (i : Expr) (typed : (meaning i).misfits ≡ 0)
    (all : Each (LeafStands names fs im a sc) (leaves i)) (now v : Valuation) (agree : Agree im now v) where
  index-of : (x : Index) → Indexes names fs hs i x → IsIndexOf x (meaning i) (record a { now = now }) sc v
  index-of x h = record {
    width = h.width;
    sign = sym h.sign;
    some = has-bits i typed;
    long = length-value i (S.wide (meaning i)) (S.signed (meaning i)) (record a { now = now });
    same = (h.lowers im a sc all helps).stands now v agree;
  }

  word-selected : (w : Word) → IsWordFor within names fs hs t i w → SelectsWord (layout t) (P.index_of (meaning i) (record a { now = now })) (word_guard w) (word_sel w) sc v
  word-selected (W.Known x) h = known-selects (layout t) _ x sc v (subst (λ z. NumbersWord (layout t) z x) (sym (h.1.number (record a { now = now }) calls)) h.2)
  word-selected (W.Lowered r) h = exact-selects (layout t) _ _ _ sc v (h.2 (meaning i) (record a { now = now }) sc v (index-of h.0 h.1))

-- a valuation that always agrees
abbrev zeros : Valuation
zeros q = Zero

zero-stored : (b : Bool) → stored_bit b Zero ≡ Zero
zero-stored true = refl
zero-stored false = refl

module _ (within : Within) (names : NameMap) (fs : List Function) (hs : List Helper) (n : ℕ) (t : SvType) (i e : Expr) (made : Targets) (h : IsInWord within names fs hs n t i e made) (xs : List Indexing) (part : Bool)
    (path : IsTypedPath n t e xs part) (typed : (meaning e).misfits ≡ 0)
    (im : Images) (a : Around) (sc : Scope) (calls : CallsFrom within fs a.callee) (distinct : AreDistinct im) (memory : OneSignal names.signals n → is_memory names.signals n ≡ true) (all : Each (LeafStands names fs im a sc) (leaves e)) (helps : EachHelps hs sc) where
  abbrev w : ℕ
  w = length (layout t).element.two_state

  abbrev name : Name
  name = h.name

  in_element : Inside n t i h.inner
  in_element = inside n t i e h.inner h.is_inner typed

  kept : LeavesOf n t i (LeafStands names fs im a sc) e h.inner
  kept = leaves-of n t i (LeafStands names fs im a sc) e h.inner h.is_inner

  stand : Each (LeafStands names fs im a sc) (Elements n (layout t) ∷ kept.others)
  stand = subst (Each (LeafStands names fs im a sc)) kept.is all

  shown : IsShownInWords name im sc n (layout t)
  shown =
      let leaf = stand.0 in
      subst (λ k. IsShownInWords k im sc n (layout t)) (sym (h.name_is leaf.0)) (subst (λ b. ShowsElements b (signal_name names.signals n) im sc n (layout t)) (memory leaf.0) leaf.1)

  inner : InnerPath n t i h.inner xs part
  inner = inner-path n t i e h.inner h.is_inner xs part path

  fits : (meaning h.inner).misfits ≡ 0
  fits = inner-typed n t i e h.inner h.is_inner typed

  are-made : AreMade within names fs hs inner.indices h.indices
  are-made = subst (AreMade within names fs hs inner.indices) (sym h.puts.is) (h.puts.made (local_number 0) inner.of inner.indices part inner.path)

  set : (now v : Valuation) → Agree im now v → IsSet w h.inner h.indices (word_alone w) (record a { now = now }) sc v
  set now v agree = record {
    number = local_number 0;
    of = inner.of;
    indices = inner.indices;
    part = part;
    path = inner.path;
    typed = fits;
    width = in_element.wide (local_number 0) inner.of inner.indices part inner.path;
    vector = record { vector = refl; width = refl };
    stand = made-stand within names fs hs im a sc helps (local_number 0) inner.of h.inner inner.indices part h.indices inner.path fits
        (kept.inner stand.1 (local_number 0) inner.of inner.indices part inner.path) are-made calls now v agree;
  }

  spread : (now v : Valuation) → Agree im now v → Spread h.inner h.indices h.alone (word_alone w) (record a { now = now }) sc v
  spread now v agree = h.spreads (word_alone w) (record a { now = now }) sc v (set now v agree)

  written : (now v : Valuation) → Agree im now v → WritesPath (word_alone w) (meaning h.inner) (record a { now = now }) (pieces_in (word_alone w) h.alone.writes) sc v
  written now v agree = (spread now v agree).path

  selected : (now v : Valuation) → Agree im now v → SelectsWord (layout t) (P.index_of (meaning i) (record a { now = now })) (word_guard h.word) (word_sel h.word) sc v
  selected now v agree = word-selected within names fs hs im a sc calls helps t i in_element.typed (kept.index stand.1) now v agree h.word h.is_word

  -- all indices of the path, by those of the path in the element and what names the word
  indices-images : AreImages im.number (meaning e).index_names (word_names h.word sc ++ all_names (givens_for h.indices) sc)
  indices-images =
      subst (λ l. AreImages im.number l (word_names h.word sc ++ all_names (givens_for h.indices) sc)) (sym (outer-names n t i e h.inner h.is_inner))
      (both-images im.number (meaning i).names (meaning h.inner).index_names (word_names h.word sc) (all_names (givens_for h.indices) sc)
      (word-named within names fs hs im a sc helps t i (kept.index stand.1) h.word h.is_word)
      (indices-named im.number sc (local_number 0) inner.of h.inner inner.indices part h.indices inner.path
      (made-named within names fs hs im a sc helps (local_number 0) inner.of h.inner inner.indices part h.indices inner.path fits
      (kept.inner stand.1 (local_number 0) inner.of inner.indices part inner.path) are-made)))

  zeros-agree : Agree im zeros zeros
  zeros-agree = record { same = λ q b less. refl; stored = λ q b less. zero-stored (im.two_state q b) }

  all-named : AreImages im.number (meaning e).index_names (target_names made sc)
  all-named =
      let ns = word_names h.word sc in
      images-like im.number (meaning e).index_names (ns ++ all_names (givens_for h.indices) sc) (target_names made sc) indices-images
      (same-then (ns ++ all_names (givens_for h.indices) sc) (ns ++ target_names h.alone sc) (target_names made sc)
      (same-joined ns ns (all_names (givens_for h.indices) sc) (target_names h.alone sc) (same-itself ns) (spread zeros zeros zeros-agree).names)
      (names-in-word h.word name w h.alone.writes made.writes h.alone.named made.named sc h.own h.all h.apart))

  is-memory : IsMemoryOf name (count_of (layout t).left (layout t).right) w sc
  is-memory = record { words = shown.words; bits = shown.width }

  pub stands-in-memory : StandsInMemory im a sc n (layout t) (meaning e) made
  stands-in-memory = record {
    writes = λ now v agree.
        subst (λ k. IsWrittenInWords (layout t) ((meaning e).window (record a { now = now })) (S.wide (meaning e)) k (pieces made.writes) sc v) shown.number
        (targets-written n t i e h.inner h.is_inner typed xs part path h.word name w h.alone.writes made.writes h.own h.all (record a { now = now }) sc v is-memory (selected now v agree) (written now v agree));
    changes = λ now v agree.
        targets-change n t i e h.inner h.is_inner typed xs part path h.word name w h.alone.writes made.writes h.own h.all (record a { now = now }) sc v is-memory (selected now v agree) (written now v agree)
        im distinct (sym shown.number) shown.image shown.marks shown.in_words;
    root = stands-on n t e xs part path;
    names = all-named;
    own = subst (λ ps. AllWrite (im.number n) ps sc) (sym (words-are h.word name w h.alone.writes made.writes h.own h.all))
        (subst (λ k. AllWrite k (word_pieces name (word_guard h.word) (word_sel h.word) (inners h.alone.writes)) sc) shown.number
        (words-write name (word_guard h.word) (word_sel h.word) (inners h.alone.writes) sc));
  }

lowers-in-memory : (within : Within) (names : NameMap) (fs : List Function) (hs : List Helper) (n : ℕ) (t : SvType) (i e : Expr) (made : Targets) → IsInWord within names fs hs n t i e made → (xs : List Indexing) (part : Bool)
    → IsTypedPath n t e xs part → (meaning e).misfits ≡ 0 → LowersInMemory within names fs hs n t e made
lowers-in-memory within names fs hs n t i e made h xs part path typed im a sc calls distinct memory all helps =
    stands-in-memory within names fs hs n t i e made h xs part path typed im a sc calls distinct memory all helps

-- where it is typed
pub lowers-memory : (within : Within) (names : NameMap) (fs : List Function) (hs : List Helper) (n : ℕ) (t : SvType) (i e : Expr) (made : Targets) → IsInWord within names fs hs n t i e made → IsTyped e → (meaning e).misfits ≡ 0
    → LowersInMemory within names fs hs n t e made
lowers-memory within names fs hs n t i e made h typed fits =
    let on = stands-on-signal n t i e h.inner h.is_inner typed.number typed.of typed.indices typed.part typed.path in
    let path : IsTypedPath n t e typed.indices typed.part =
    subst (λ k. IsTypedPath k t e typed.indices typed.part) (sym on.number) (subst (λ u. IsTypedPath typed.number u e typed.indices typed.part) (sym on.type) typed.path) in
    lowers-in-memory within names fs hs n t i e made h typed.indices typed.part path fits

-- the word of an index as it is given
pub word-for : (within : Within) (names : NameMap) (fs : List Function) (hs : List Helper) (t : SvType) (i : Expr) (g : Given) (w : Word) → StandsForIndex within names fs hs i g → WordOf t g w → IsWordFor within names fs hs t i w
word-for within names fs hs t i (G.Known k) (W.Known x) h is = (k, h, is)
word-for within names fs hs t i (G.Known k) (W.Lowered r) h is = absurd is
word-for within names fs hs t i (G.Lowered x d) (W.Known y) h is = absurd is
word-for within names fs hs t i (G.Lowered x d) (W.Lowered r) h is = (x, h.0, is.0, is.1)
