-- Files whose contents are told come to one answer.
use Rattle.std.proofs.Common.{◌≡◌, ◌⊎◌, ℕ, ◌*◌, ◌<◌, ◌≤◌, List, length, slice_get, Some, refl, sym, ap, subst, ◌∙◌, inl, inr, arith, true≢false}
use Rattle.sv_source.specs.Loading.{Contents}
use Rattle.sv_source.specs.declared.files.Loaded.TheVariants.{Bytes, Absent, TooLong}
use Rattle.sv_source.specs.declared.refusal.Refusal.{Refusal}
use Rattle.b4_core.specs.declared.bit.Bit4.{Bit4}
use Rattle.eval_words.specs.declared.words.EvalRun.{EvalRun}
use Rattle.v_tree.specs.declared.items.VDesign.{VDesign}
use Rattle.v_tree.specs.Reading.{VReads}
use Rattle.v_tree.specs.Rules.{FitsTop}
use Rattle.v_parse.specs.declared.spot.Spot.{Spot}
use Rattle.v_parse.specs.Spots.{spot_of}
use Rattle.v_lexer.specs.Seen.{tokens_of}
use Rattle.v_reader.proofs.OneAnswer.{one_answer}
use Rattle.text_shape.specs.Shapes.{shape_of}
use Rattle.stim_rows.specs.declared.shape.Shape.{Shape}
use Rattle.stim_rows.specs.Slots.{slots_of}
use Rattle.stim_rows.specs.RowFiles.{RowsText}
use Rattle.stim_rows.specs.Departures.{DepartsAt, RowsBreak, departs, many, departure, row_limit}
use Rattle.stim_rows.proofs.Unique.{none_departs_there, one_reading_alone}
use Rattle.eval_top.specs.Asking.{first_path}
use Rattle.eval_top.specs.Loading.{text_limit, rows_limit, MayLoad, Unloaded, absent, long, IsText, HasText, Unread, TextBreak, HasRows, RowFileBreak}
use Rattle.eval_top.specs.Loading.TextBreak.{unloaded as no_text, unread, unfit}
use Rattle.eval_top.specs.Loading.RowFileBreak.{unloaded as no_rows, departs as file_departs}
use Rattle.eval_top.specs.Running.{LinesOf, Unsettles, HasLines, HasNoTrace, Cause, in_text, in_rows}
use Rattle.eval_top.proofs.OneRun.{order}
use Rattle.eval_top.proofs.Ran.{one-lines-of, lines-settle, one-unsettled}

-- where a row file departs from the form it does so at one byte
module _ (shape : Shape) (bytes : List ℕ) where
  later : (j k : ℕ) → DepartsAt (slots_of shape.inputs) bytes j → DepartsAt (slots_of shape.inputs) bytes k → j < k → ⊥
  later j k a b less = absurd (true≢false (sym (b.taken_before j less) ∙ a.not_taken))

  one-place : (j k : ℕ) → DepartsAt (slots_of shape.inputs) bytes j → DepartsAt (slots_of shape.inputs) bytes k → j ≡ k
  one-place j k a b = by (order j k)
    where
      by : (j ≡ k) ⊎ (j < k) ⊎ (k < j) → j ≡ k
      by (inl same) = same
      by (inr (inl less)) = absurd (later j k a b less)
      by (inr (inr more)) = absurd (later k j b a more)

  pub rows-unbroken : (file : ℕ) (rows : List (List (List Bit4))) (r : Refusal) → RowsText shape.inputs bytes rows → length rows * shape.bits ≤ row_limit
      → RowsBreak shape file bytes r → ⊥
  rows-unbroken file rows r text few (departs k at) = none_departs_there shape.inputs bytes rows k text at
  rows-unbroken file rows r text few (many others other-text more) =
      let same : rows ≡ others = one_reading_alone shape.inputs bytes rows others text other-text in
      let count : length rows * shape.bits ≡ length others * shape.bits = ap (λ (rs : List (List (List Bit4))). length rs * shape.bits) same in
      absurd (omega (arith, count, few, more))

  pub one-rows-break : (file : ℕ) (r s : Refusal) → RowsBreak shape file bytes r → RowsBreak shape file bytes s → r ≡ s
  one-rows-break file r s (departs j a) (departs k b) = ap (departure shape file) (one-place j k a b)
  one-rows-break file r s (departs j a) (many rows text more) = absurd (none_departs_there shape.inputs bytes rows j text a)
  one-rows-break file r s (many rows text more) (departs k b) = absurd (none_departs_there shape.inputs bytes rows k text b)
  one-rows-break file r s (many rows text more) (many others other-text more') = refl

abbrev spot-at : ℕ → ℕ → List ℕ → Spot
spot-at line col word = record { place = record { line = line; col = col }; word = word }

-- a text is refused in one way
pub one-unread : (bytes : List ℕ) (r s : Refusal) → Unread bytes r → Unread bytes s → r ≡ s
one-unread bytes r s a b = same-refusal
  where
    token : a.refused.token ≡ b.refused.token
    token = (one_answer bytes).token a.refused.token b.refused.token a.refused.broken b.refused.broken

    rule : a.rule ≡ b.rule
    rule = sym a.refused.number ∙ (one_answer bytes).rule a.refused.token b.refused.token a.refused.broken b.refused.broken ∙ b.refused.number

    spot : spot-at a.line a.col a.word ≡ spot-at b.line b.col b.word
    spot = sym a.refused.stands ∙ ap (λ (t : ℕ). spot_of bytes (slice_get (tokens_of bytes) t)) token ∙ b.refused.stands

    line : a.line ≡ b.line
    line = ap (λ (x : Spot). x.place.line) spot

    col : a.col ≡ b.col
    col = ap (λ (x : Spot). x.place.col) spot

    word : a.word ≡ b.word
    word = ap (λ (x : Spot). x.word) spot

    same-refusal : r ≡ s
    same-refusal =
        a.is ∙ (λ i. record { rule = rule i; place = record { file = 0; line = line i; col = col i }; word = word i }) ∙ sym b.is

pub read-unbroken : (bytes : List ℕ) (e : VDesign) (r : Refusal) → VReads bytes e → Unread bytes r → ⊥
read-unbroken bytes e r reads a = (one_answer bytes).read_or_refused e a.refused.token reads a.refused.broken

module _ (contents : Contents) where
  -- what a path holds
  module _ (path : List ℕ) (limit : ℕ) where
    one-load : (bytes others : List ℕ) → MayLoad (Some contents) path limit (Bytes bytes) → MayLoad (Some contents) path limit (Bytes others) → bytes ≡ others
    one-load bytes others a b =
        let x = (a.by_contents contents refl).0 in
        let y = (b.by_contents contents refl).0 in
        cc

    load-there : (bytes : List ℕ) → MayLoad (Some contents) path limit (Bytes bytes) → MayLoad (Some contents) path limit Absent → ⊥
    load-there bytes a b =
        let x = (a.by_contents contents refl).0 in
        let y = b.by_contents contents refl in
        cc

    load-short : (bytes : List ℕ) → MayLoad (Some contents) path limit (Bytes bytes) → MayLoad (Some contents) path limit TooLong → ⊥
    load-short bytes a b =
        let x = (a.by_contents contents refl).0 in
        let y = b.by_contents contents refl in
        let both = y.1 in
        let same : bytes ≡ y.0 = cc in
        absurd (omega (arith, ap length same, a.within, y.2))

    absent-or-long : MayLoad (Some contents) path limit Absent → MayLoad (Some contents) path limit TooLong → ⊥
    absent-or-long a b =
        let x = a.by_contents contents refl in
        let y = b.by_contents contents refl in
        let both = y.1 in
        cc

    loaded-or-not : (file : ℕ) (bytes : List ℕ) (r : Refusal) → MayLoad (Some contents) path limit (Bytes bytes) → Unloaded (Some contents) path limit file r → ⊥
    loaded-or-not file bytes r a (absent b e) = load-there bytes a b
    loaded-or-not file bytes r a (long b e) = load-short bytes a b

    one-unloaded : (file : ℕ) (r s : Refusal) → Unloaded (Some contents) path limit file r → Unloaded (Some contents) path limit file s → r ≡ s
    one-unloaded file r s (absent a e) (absent b f) = e ∙ sym f
    one-unloaded file r s (absent a e) (long b f) = absurd (absent-or-long a b)
    one-unloaded file r s (long a e) (absent b f) = absurd (absent-or-long b a)
    one-unloaded file r s (long a e) (long b f) = e ∙ sym f

  module _ (run : EvalRun) where
    same-bytes : (bytes others : List ℕ) → MayLoad (Some contents) (first_path run) text_limit (Bytes bytes) → MayLoad (Some contents) (first_path run) text_limit (Bytes others) → bytes ≡ others
    same-bytes = one-load (first_path run) text_limit

    one-text : (e f : VDesign) → IsText run (Some contents) e → IsText run (Some contents) f → e ≡ f
    one-text e f a b =
        let same = same-bytes a.bytes b.bytes a.loaded b.loaded in
        (one_answer b.bytes).design e f (subst (λ (bytes : List ℕ). VReads bytes e) same a.reads) b.reads

    text-read : (bytes : List ℕ) (e : VDesign) (r : Refusal) → IsText run (Some contents) e → MayLoad (Some contents) (first_path run) text_limit (Bytes bytes) → Unread bytes r → ⊥
    text-read bytes e r a load u =
        let same = same-bytes a.bytes bytes a.loaded load in
        read-unbroken bytes e r (subst (λ (b : List ℕ). VReads b e) same a.reads) u

    pub text-unbroken : (e : VDesign) (r : Refusal) → HasText run (Some contents) e → TextBreak run (Some contents) r → ⊥
    text-unbroken e r a (no_text u) = loaded-or-not (first_path run) text_limit 0 a.text.bytes r a.text.loaded u
    text-unbroken e r a (unread bytes load u) = text-read bytes e r a.text load u
    text-unbroken e r a (unfit f b never is) = never (subst (λ (g : VDesign). FitsTop g run.top) (one-text e f a.text b) a.fits)

    pub one-text-break : (r s : Refusal) → TextBreak run (Some contents) r → TextBreak run (Some contents) s → r ≡ s
    one-text-break r s (no_text u) (no_text v) = one-unloaded (first_path run) text_limit 0 r s u v
    one-text-break r s (no_text u) (unread bytes load v) = absurd (loaded-or-not (first_path run) text_limit 0 bytes r load u)
    one-text-break r s (no_text u) (unfit f b never is) = absurd (loaded-or-not (first_path run) text_limit 0 b.bytes r b.loaded u)
    one-text-break r s (unread bytes load u) (no_text v) = absurd (loaded-or-not (first_path run) text_limit 0 bytes s load v)
    one-text-break r s (unread bytes load u) (unread others load' v) =
        one-unread others r s (subst (λ (b : List ℕ). Unread b r) (same-bytes bytes others load load') u) v
    one-text-break r s (unread bytes load u) (unfit f b never is) = absurd (text-read bytes f r b load u)
    one-text-break r s (unfit f b never is) (no_text v) = absurd (loaded-or-not (first_path run) text_limit 0 b.bytes s b.loaded v)
    one-text-break r s (unfit f b never is) (unread bytes load v) = absurd (text-read bytes f s b load v)
    one-text-break r s (unfit f b never is) (unfit g b' never' is') = is ∙ sym is'

    module _ (e : VDesign) where
      same-rows : (rows others : List (List (List Bit4))) → HasRows run (Some contents) e rows → HasRows run (Some contents) e others → rows ≡ others
      same-rows rows others a b =
          let same = one-load run.rows rows_limit a.bytes b.bytes a.loaded b.loaded in
          one_reading_alone (shape_of e run.top).inputs b.bytes rows others (subst (λ (bytes : List ℕ). RowsText (shape_of e run.top).inputs bytes rows) same a.are) b.are

      row-file-unbroken : (rows : List (List (List Bit4))) (r : Refusal) → HasRows run (Some contents) e rows → RowFileBreak run (Some contents) e r → ⊥
      row-file-unbroken rows r a (no_rows u) = loaded-or-not run.rows rows_limit 1 a.bytes r a.loaded u
      row-file-unbroken rows r a (file_departs bytes load b) =
          let same = one-load run.rows rows_limit a.bytes bytes a.loaded load in
          rows-unbroken (shape_of e run.top) bytes 1 rows r (subst (λ (b : List ℕ). RowsText (shape_of e run.top).inputs b rows) same a.are) a.few b

      one-row-file-break : (r s : Refusal) → RowFileBreak run (Some contents) e r → RowFileBreak run (Some contents) e s → r ≡ s
      one-row-file-break r s (no_rows u) (no_rows v) = one-unloaded run.rows rows_limit 1 r s u v
      one-row-file-break r s (no_rows u) (file_departs bytes load b) = absurd (loaded-or-not run.rows rows_limit 1 bytes r load u)
      one-row-file-break r s (file_departs bytes load a) (no_rows v) = absurd (loaded-or-not run.rows rows_limit 1 bytes s load v)
      one-row-file-break r s (file_departs bytes load a) (file_departs others load' b) =
          one-rows-break (shape_of e run.top) others 1 r s (subst (λ (x : List ℕ). RowsBreak (shape_of e run.top) 1 x r) (one-load run.rows rows_limit bytes others load load') a) b

    -- files that can be run have no break
    pub no-cause : (e : VDesign) (rows : List (List (List Bit4))) (path : List ℕ) (r : Refusal) → HasText run (Some contents) e → HasRows run (Some contents) e rows
        → Cause run (Some contents) path r → ⊥
    no-cause e rows path r text has (in_text b is) = text-unbroken e r text b
    no-cause e rows path r text has (in_rows f text' b is) =
        row-file-unbroken e rows r has (subst (λ (g : VDesign). RowFileBreak run (Some contents) g r) (one-text f e text'.text text.text) b)

    -- files have one break
    pub one-cause : (path other : List ℕ) (r s : Refusal) → Cause run (Some contents) path r → Cause run (Some contents) other s → (path ≡ other) × (r ≡ s)
    one-cause path other r s (in_text a is) (in_text b is') = (is ∙ sym is', one-text-break r s a b)
    one-cause path other r s (in_text a is) (in_rows f text b is') = absurd (text-unbroken f r text a)
    one-cause path other r s (in_rows f text a is) (in_text b is') = absurd (text-unbroken f s text b)
    one-cause path other r s (in_rows e text a is) (in_rows f text' b is') =
        (is ∙ sym is', one-row-file-break f r s (subst (λ (g : VDesign). RowFileBreak run (Some contents) g r) (one-text e f text.text text'.text) a) b)

    -- and one run
    module _ (e f : VDesign) (rows others : List (List (List Bit4))) (text : HasText run (Some contents) e) (text' : HasText run (Some contents) f)
        (has : HasRows run (Some contents) e rows) (has' : HasRows run (Some contents) f others) where
      same-design : e ≡ f
      same-design = one-text e f text.text text'.text

      rows-same : rows ≡ others
      rows-same = same-rows f rows others (subst (λ (g : VDesign). HasRows run (Some contents) g rows) same-design has) has'

      moved-lines : (lines : List ℕ) → LinesOf e run.top (shape_of e run.top).outputs rows lines → LinesOf f run.top (shape_of f run.top).outputs others lines
      moved-lines lines l =
          subst (λ (rs : List (List (List Bit4))). LinesOf f run.top (shape_of f run.top).outputs rs lines) rows-same
          (subst (λ (g : VDesign). LinesOf g run.top (shape_of g run.top).outputs rows lines) same-design l)

      moved-failure : (row : ℕ) (name : List ℕ) → Unsettles e run.top rows row name → Unsettles f run.top others row name
      moved-failure row name u =
          subst (λ (rs : List (List (List Bit4))). Unsettles f run.top rs row name) rows-same
          (subst (λ (g : VDesign). Unsettles g run.top rows row name) same-design u)

    pub one-lines : (lines others : List ℕ) → HasLines run (Some contents) lines → HasLines run (Some contents) others → lines ≡ others
    one-lines lines others a b =
        one-lines-of b.design run.top (shape_of b.design run.top).outputs b.rows lines others
        (moved-lines a.design b.design a.rows b.rows a.text b.text a.row_file b.row_file lines a.are) b.are

    pub lines-or-failure : (lines : List ℕ) (row : ℕ) (name : List ℕ) → HasLines run (Some contents) lines → HasNoTrace run (Some contents) row name → ⊥
    lines-or-failure lines row name a b =
        lines-settle b.design run.top (shape_of b.design run.top).outputs b.rows lines row name
        (moved-lines a.design b.design a.rows b.rows a.text b.text a.row_file b.row_file lines a.are) b.unsettles

    pub one-no-trace : (row other : ℕ) (name other-name : List ℕ) → HasNoTrace run (Some contents) row name → HasNoTrace run (Some contents) other other-name
        → (row ≡ other) × (name ≡ other-name)
    one-no-trace row other name other-name a b =
        one-unsettled b.design run.top b.rows row other name other-name
        (moved-failure a.design b.design a.rows b.rows a.text b.text a.row_file b.row_file row name a.unsettles) b.unsettles
