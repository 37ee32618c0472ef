-- Written items, modules and texts: their pieces are read as their tokens, and these are derived and mean them.
use Rattle.std.proofs.Common.{◌≡◌, ℕ, ◌≤◌, Bool, true, false, ◌&&◌, List, [], ◌∷◌, ◌++◌, map, codes, Option, Some, None, refl, sym, ap, ◌∙◌, append_assoc, leb-true, arith}
use Rattle.std.specs.List.{list_all}
use Rattle.std.specs.Prelude.{nat_le}
use Rattle.std.proofs.lemmas.Bool.{and_parts, false≢true}
use Rattle.std.proofs.lemmas.List.{append-nil}
use Rattle.b4_core.specs.declared.bit.Bit4.{Bit4}
use Rattle.ll_engine.specs.declared.table.Part.{Part}
use Rattle.ll_engine.specs.declared.table.Part.TheVariants.{Term, Non, Maybe, Many}
use Rattle.ll_engine.specs.Grammar.{IsBlank, Begins, IsBegun}
use Rattle.v_tree.specs.declared.expressions.VExpr.{VExpr}
use Rattle.v_tree.specs.declared.items.VEdge.{VEdge}
use Rattle.v_tree.specs.declared.items.VInit.{VInit}
use Rattle.v_tree.specs.declared.items.VInit.TheVariants as V
use Rattle.v_tree.specs.declared.items.VInitial.{VInitial}
use Rattle.v_tree.specs.declared.items.VItem.{VItem}
use Rattle.v_tree.specs.declared.items.VItem.TheVariants as I
use Rattle.v_tree.specs.declared.items.VProcess.TheVariants.{Assign, Always}
use Rattle.v_tree.specs.declared.items.VRegRest.{VRegRest}
use Rattle.v_tree.specs.declared.items.VRegRest.TheVariants as R
use Rattle.v_tree.specs.declared.items.VSensitivity.{VSensitivity}
use Rattle.v_tree.specs.declared.items.VSensitivity.TheVariants.{Star, Edges}
use Rattle.v_tree.specs.declared.items.VSignal.{VSignal}
use Rattle.v_tree.specs.declared.items.VSignal.TheVariants.{Input, Output, OutputReg, Wire, Reg}
use Rattle.v_tree.specs.declared.parts.VPart.{VPart}
use Rattle.v_tree.specs.declared.parts.VPart.TheVariants as P
use Rattle.v_tree.specs.declared.statements.VBranch.{VBranch}
use Rattle.v_tree.specs.declared.statements.VLval.{VLval}
use Rattle.v_tree.specs.Heads as head
use Rattle.v_tree.specs.Symbols as terminal
use Rattle.v_tree.specs.Table.{table}
use Rattle.v_tree.specs.Tokens.{Token, is_name}
use Rattle.v_tree.specs.Parts.{as_number, as_edge}
use Rattle.v_tree.specs.Meaning.{signal_of, output_reg_of, reg_of}
use Rattle.v_tree.specs.Grammatical.{is_number, is_decimal, is_perhaps, fit, fit_of_lval, is_expr, is_lval, is_branch, form_of_branch, is_init, is_rest, is_declared, is_sensitivity, is_item}
use Rattle.v_tree.specs.Reading.{nesting_limit}
use Rattle.v_tree.proofs.Induction.{Each}
use Rattle.v_tree.proofs.Rows as Rows
use Rattle.v_writer.specs.Layout.{Piece, space, word, mark, name, tokens_of, perhaps, range_layout, declaration_layout, branch_layout, edge_word, edge_layout, further_edges, edges_layout, sensitivity_layout, number_layout, init_layout, initial_layout, rest_layout, item_layout}
use Rattle.v_writer.proofs.Phrases.{front, ended, by-row, symbol-read, non-read}
use Rattle.v_writer.proofs.Pieces.{left-paren-on, right-paren-on, left-brace-on, right-brace-on, semicolon-on, at-mark-on, spaced-equals-on, spaced-less-equal-on, spaced-star-on, name-on, word-on, number-on}
use Rattle.v_writer.proofs.Said.{Ended, Said, Node, done, mk, wd, spaced, sp, said-as, node-as, out, non, may, many, row, passed, Item, separated}
use Rattle.v_writer.proofs.WrittenExprs.{all-made, expr-read}
use Rattle.v_writer.proofs.WrittenStmts.{StopsIf, lval-read, range-node, range_parts, declared-said, branch-read}

pub none : 0 ≤ nesting_limit
none = omega arith

-- what a tree of the grammar needs: that it fits, and how deep it may nest
pub fits-and-depth : (b : Bool) (n : ℕ) → (b && nat_le n nesting_limit) ≡ true → (b ≡ true) × (n ≤ nesting_limit)
fits-and-depth b n e = let parts = and_parts b (nat_le n nesting_limit) e in (parts.0, leb-true n nesting_limit parts.1)

signal-means : (make : Option ℕ → List ℕ → VSignal) (range : Option ℕ) (n : List ℕ)
    → signal_of make (P.Nothing ∷ (range_parts range ++ P.Name n ∷ P.Nothing ∷ [])) ≡ P.Item (I.Signal (make range n))
signal-means make None n = refl
signal-means make (Some left) n = refl

abbrev pub Anything : Option ℕ → Type 0
Anything x = Unit {0}

module _ (all : List Token) where
  -- one item, in front of a symbol that is no `else`
  abbrev pub ItemRead : VItem → Type 0
  ItemRead i = is_item i ≡ true → (after : Option ℕ) → StopsIf after → Node all head.module_item 0 (item_layout i) after (P.Item i)

  pub input-item : (range : Option ℕ) (n : List ℕ) → ItemRead (I.Signal (Input range n))
  input-item range n good after stop =
      let parts = and_parts (is_perhaps is_decimal range) (is_name n) good in
      row all 0 Rows.row_input (Begins.itself refl)
      (wd all (Token.word (codes "input")) refl none (λ qs. word-on (codes "input") qs refl) (λ qs e. refl)
      (sp all (declared-said all range n 0 parts.0 parts.1 none (λ qs e. refl)
      (mk all (Token.mark (codes ";")) refl none semicolon-on (done all 0 0 after)))))
      (signal-means Input range n)

  pub wire-item : (range : Option ℕ) (n : List ℕ) → ItemRead (I.Signal (Wire range n))
  wire-item range n good after stop =
      let parts = and_parts (is_perhaps is_decimal range) (is_name n) good in
      row all 0 Rows.row_wire (Begins.itself refl)
      (wd all (Token.word (codes "wire")) refl none (λ qs. word-on (codes "wire") qs refl) (λ qs e. refl)
      (sp all (declared-said all range n 0 parts.0 parts.1 none (λ qs e. refl)
      (mk all (Token.mark (codes ";")) refl none semicolon-on (done all 0 0 after)))))
      (signal-means Wire range n)

  -- what stands behind `output`
  out-begins : (range : Option ℕ) (n : List ℕ) (M : List Piece) (after : Option ℕ)
      → IsBegun table (Maybe head.range ∷ Term terminal.name ∷ Term terminal.semicolon ∷ []) (front (tokens_of (perhaps range_layout range ++ name n ∷ M)) after)
  out-begins None n M after = Begins.behind (IsBlank.skipped refl IsBlank.nothing) (Begins.itself refl)
  out-begins (Some left) n M after = Begins.inside refl Rows.row_range (Begins.itself refl)

  output-means : (range : Option ℕ) (n : List ℕ) → signal_of Output (range_parts range ++ P.Name n ∷ P.Nothing ∷ []) ≡ P.Item (I.Signal (Output range n))
  output-means None n = refl
  output-means (Some left) n = refl

  pub output-item : (range : Option ℕ) (n : List ℕ) → ItemRead (I.Signal (Output range n))
  output-item range n good after stop =
      let parts = and_parts (is_perhaps is_decimal range) (is_name n) good in
      let rest = row all 0 Rows.row_output_net (out-begins range n (mark (codes ";") ∷ []) after)
      (declared-said all range n 0 parts.0 parts.1 none (λ qs e. refl) (mk all (Token.mark (codes ";")) refl none semicolon-on (done all 0 0 after)))
      (output-means range n) in
      node-as all (ap (λ l. word (codes "output") ∷ space ∷ l) (append-nil (perhaps range_layout range ++ name n ∷ mark (codes ";") ∷ [])))
      (row all 0 Rows.row_output (Begins.itself refl)
      (wd all (Token.word (codes "output")) refl none (λ qs. word-on (codes "output") qs refl) (λ qs e. refl)
      (sp all (non all rest (λ qs e. e) (done all 0 0 after)))) refl)

  number-items : (vs : List (List Bit4)) → list_all is_number vs ≡ true → Each (Item all number_layout P.Number (Term terminal.number) Anything 0) vs
  number-items [] good = tt
  number-items (v ∷ vs) good =
      let parts = and_parts (is_number v) (list_all is_number vs) good in
      ((λ turn ps M after ms stop ended_by s. mk all (Token.number v) refl none (λ qs. number-on v qs parts.0) s), number-items vs parts.1)

  value-node : (v : VInit) → is_init v ≡ true → (after : Option ℕ) → Node all head.value 0 (init_layout v) after (P.Initial v)
  value-node (V.Number bits) good after =
      row all 0 Rows.row_value_number (Begins.itself refl) (mk all (Token.number bits) refl none (λ qs. number-on bits qs good) (done all 0 0 after)) refl
  value-node (V.Concat []) good after = absurd (false≢true good)
  value-node (V.Concat (v ∷ vs)) good after =
      row all 0 Rows.row_value_pieces (Begins.itself refl)
      (mk all (Token.mark (codes "{")) refl none left-brace-on
      (separated all number_layout P.Number (Term terminal.number) Anything tt head.next_number 21 Rows.row_next_number (λ x. refl) 0 none
      v vs (number-items (v ∷ vs) good) tt refl (λ qs e. refl)
      (mk all (Token.mark (codes "}")) refl none right-brace-on (done all 0 0 after))))
      (ap (λ ys. P.Initial (V.Concat (v ∷ ys))) (all-made as_number P.Number (λ x. refl) vs (P.Nothing ∷ []) ∙ append-nil vs))

  initial-node : (v : VInit) → is_init v ≡ true → (after : Option ℕ) → Node all head.initial_value 0 (mark (codes "=") ∷ space ∷ init_layout v) after (P.Initial v)
  initial-node v good after =
      node-as all (ap (λ l. mark (codes "=") ∷ space ∷ l) (append-nil (init_layout v)))
      (row all 0 Rows.row_initial_value (Begins.itself refl)
      (spaced all (Token.mark (codes "=")) refl none spaced-equals-on
      (non all (value-node v good after) (λ qs e. e) (done all 0 0 after))) refl)

  abbrev initial_parts : Option VInit → List VPart
  initial_parts None = []
  initial_parts (Some v) = P.Initial v ∷ []

  initial-said : (initial : Option VInit) → is_perhaps is_init initial ≡ true → (after : Option ℕ)
      → Said all 0 0 (Maybe head.initial_value ∷ Term terminal.semicolon ∷ []) (perhaps initial_layout initial ++ mark (codes ";") ∷ []) after (initial_parts initial ++ P.Nothing ∷ [])
  initial-said None good after = out all refl refl (mk all (Token.mark (codes ";")) refl none semicolon-on (done all 0 0 after))
  initial-said (Some v) good after =
      sp all (may all (initial-node v good (Some terminal.semicolon)) (λ qs e. refl) (mk all (Token.mark (codes ";")) refl none semicolon-on (done all 0 0 after)))

  initial-ends : (initial : Option VInit) → Ended (perhaps initial_layout initial ++ mark (codes ";") ∷ [])
  initial-ends None qs e = refl
  initial-ends (Some v) qs e = refl

  output-reg-means : (range : Option ℕ) (n : List ℕ) (initial : Option VInit)
      → output_reg_of (P.Nothing ∷ (range_parts range ++ P.Name n ∷ (initial_parts initial ++ P.Nothing ∷ []))) ≡ P.Item (I.Signal (OutputReg range n initial))
  output-reg-means None n None = refl
  output-reg-means (Some left) n None = refl
  output-reg-means None n (Some v) = refl
  output-reg-means (Some left) n (Some v) = refl

  pub output-reg-item : (range : Option ℕ) (n : List ℕ) (initial : Option VInit) → ItemRead (I.Signal (OutputReg range n initial))
  output-reg-item range n initial good after stop =
      let both = and_parts (is_declared range n) (is_perhaps is_init initial) good in
      let parts = and_parts (is_perhaps is_decimal range) (is_name n) both.0 in
      let rest = row all 0 Rows.row_output_reg (Begins.itself refl)
      (wd all (Token.word (codes "reg")) refl none (λ qs. word-on (codes "reg") qs refl) (λ qs e. refl)
      (sp all (declared-said all range n 0 parts.0 parts.1 none (initial-ends initial) (initial-said initial both.1 after))))
      (output-reg-means range n initial) in
      node-as all (ap (λ l. word (codes "output") ∷ space ∷ l) (append-nil (declaration_layout (codes "reg") range n (perhaps initial_layout initial))))
      (row all 0 Rows.row_output (Begins.itself refl)
      (wd all (Token.word (codes "output")) refl none (λ qs. word-on (codes "output") qs refl) (λ qs e. refl)
      (sp all (non all rest (λ qs e. e) (done all 0 0 after)))) refl)

  abbrev rest_parts : Option VRegRest → List VPart
  rest_parts None = []
  rest_parts (Some r) = P.RegRest r ∷ []

  rest-said : (rest : Option VRegRest) → is_perhaps is_rest rest ≡ true → (after : Option ℕ)
      → Said all 0 0 (Maybe head.reg_rest ∷ Term terminal.semicolon ∷ []) (perhaps rest_layout rest ++ mark (codes ";") ∷ []) after (rest_parts rest ++ P.Nothing ∷ [])
  rest-said None good after = out all refl refl (mk all (Token.mark (codes ";")) refl none semicolon-on (done all 0 0 after))
  rest-said (Some (R.Memory left)) good after =
      sp all
      (may all (passed all 0 Rows.row_memory (passed all 0 Rows.row_memory_range (range-node all left 0 (Some terminal.semicolon) good none) refl) refl) (λ qs e. refl)
      (mk all (Token.mark (codes ";")) refl none semicolon-on (done all 0 0 after)))
  rest-said (Some (R.Initial v)) good after =
      sp all
      (may all (passed all 0 Rows.row_reg_value (initial-node v good (Some terminal.semicolon)) refl) (λ qs e. refl)
      (mk all (Token.mark (codes ";")) refl none semicolon-on (done all 0 0 after)))

  rest-ends : (rest : Option VRegRest) → Ended (perhaps rest_layout rest ++ mark (codes ";") ∷ [])
  rest-ends None qs e = refl
  rest-ends (Some (R.Memory left)) qs e = refl
  rest-ends (Some (R.Initial v)) qs e = refl

  reg-means : (range : Option ℕ) (n : List ℕ) (rest : Option VRegRest)
      → reg_of (P.Nothing ∷ (range_parts range ++ P.Name n ∷ (rest_parts rest ++ P.Nothing ∷ []))) ≡ P.Item (I.Signal (Reg range n rest))
  reg-means None n None = refl
  reg-means (Some left) n None = refl
  reg-means None n (Some r) = refl
  reg-means (Some left) n (Some r) = refl

  pub reg-item : (range : Option ℕ) (n : List ℕ) (rest : Option VRegRest) → ItemRead (I.Signal (Reg range n rest))
  reg-item range n rest good after stop =
      let both = and_parts (is_declared range n) (is_perhaps is_rest rest) good in
      let parts = and_parts (is_perhaps is_decimal range) (is_name n) both.0 in
      row all 0 Rows.row_reg (Begins.itself refl)
      (wd all (Token.word (codes "reg")) refl none (λ qs. word-on (codes "reg") qs refl) (λ qs e. refl)
      (sp all (declared-said all range n 0 parts.0 parts.1 none (rest-ends rest) (rest-said rest both.1 after))))
      (reg-means range n rest)

  pub initial-item : (i : VInitial) → ItemRead (I.Initial i)
  initial-item i good after stop =
      let parts = and_parts (is_name i.name) (is_number i.value) good in
      row all 0 Rows.row_initial (Begins.itself refl)
      (wd all (Token.word (codes "initial")) refl none (λ qs. word-on (codes "initial") qs refl) (λ qs e. refl)
      (sp all (wd all (Token.name i.name) refl none (λ qs. name-on i.name qs parts.0) (λ qs e. refl)
      (sp all (spaced all (Token.mark (codes "<=")) refl none spaced-less-equal-on
      (mk all (Token.number i.value) refl none (λ qs. number-on i.value qs parts.1)
      (mk all (Token.mark (codes ";")) refl none semicolon-on (done all 0 0 after)))))))) refl

  pub assign-item : (target : VLval) (value : VExpr) → ItemRead (I.Process (Assign target value))
  assign-item target value good after stop =
      let parts = and_parts (is_lval target) (is_expr value) good in
      let to = fits-and-depth (fit_of_lval target).fits (fit_of_lval target).depth parts.0 in
      let of = fits-and-depth (fit value).fits (fit value).depth parts.1 in
      row all 0 Rows.row_assign (Begins.itself refl)
      (wd all (Token.word (codes "assign")) refl none (λ qs. word-on (codes "assign") qs refl) (λ qs e. refl)
      (sp all (non all (lval-read all target to.0 0 (Some terminal.equals) (omega (arith, to.1)) (refl, refl)) (λ qs e. refl)
      (sp all (spaced all (Token.mark (codes "=")) refl none spaced-equals-on
      (non all (expr-read all value of.0 0 (Some terminal.semicolon) (omega (arith, of.1)) (refl, (refl, refl))) (λ qs e. refl)
      (mk all (Token.mark (codes ";")) refl none semicolon-on (done all 0 0 after)))))))) refl

  edge-node : (e : VEdge) → is_name e.name ≡ true → (after : Option ℕ) → Node all head.edge 0 (edge_layout e) after (P.Edge e)
  edge-node e good after = with_word e.rising
    where
      with_word : (rising : Bool) → Node all head.edge 0 (word (edge_word rising) ∷ space ∷ name e.name ∷ []) after (P.Edge (record { rising = rising; name = e.name }))
      with_word true =
          row all 0 Rows.row_posedge (Begins.itself refl)
          (wd all (Token.word (codes "posedge")) refl none (λ qs. word-on (codes "posedge") qs refl) (λ qs k. refl)
          (sp all (wd all (Token.name e.name) refl none (λ qs. name-on e.name qs good) (λ qs k. k) (done all 0 0 after)))) refl
      with_word false =
          row all 0 Rows.row_negedge (Begins.itself refl)
          (wd all (Token.word (codes "negedge")) refl none (λ qs. word-on (codes "negedge") qs refl) (λ qs k. refl)
          (sp all (wd all (Token.name e.name) refl none (λ qs. name-on e.name qs good) (λ qs k. k) (done all 0 0 after)))) refl

  edges-end : (es : List VEdge) → Ended (further_edges es ++ mark (codes ")") ∷ [])
  edges-end [] qs k = refl
  edges-end (e ∷ es) qs k = refl

  further-edges-said : (es : List VEdge) → list_all (λ (e : VEdge). is_name e.name) es ≡ true → (after : Option ℕ)
      → Said all 0 0 (Many head.next_edge ∷ Term terminal.right_paren ∷ []) (further_edges es ++ mark (codes ")") ∷ []) after (map P.Edge es ++ P.Nothing ∷ [])
  further-edges-said [] good after = out all refl refl (mk all (Token.mark (codes ")")) refl none right-paren-on (done all 0 0 after))
  further-edges-said (e ∷ es) good after =
      let parts = and_parts (is_name e.name) (list_all (λ (e : VEdge). is_name e.name) es) good in
      let rest = further_edges es ++ mark (codes ")") ∷ [] in
      let behind = front (tokens_of rest) after in
      sp all (said-as all (ap (λ l. word (codes "or") ∷ space ∷ l) (sym (append_assoc (edge_layout e) (further_edges es) (mark (codes ")") ∷ []))))
      (many all
      (node-as all (ap (λ l. word (codes "or") ∷ space ∷ l) (append-nil (edge_layout e)))
      (row all 0 Rows.row_next_edge (Begins.itself refl)
      (wd all (Token.word (codes "or")) refl none (λ qs. word-on (codes "or") qs refl) (λ qs k. refl)
      (sp all (non all (edge-node e parts.0 behind) (λ qs k. k) (done all 0 0 behind)))) refl))
      (edges-end es) (further-edges-said es parts.1 after)))

  edges-node : (e : VEdge) (es : List VEdge) → list_all (λ (e : VEdge). is_name e.name) (e ∷ es) ≡ true → (after : Option ℕ)
      → Node all head.event_control 0 (mark (codes "(") ∷ (edges_layout (e ∷ es) ++ mark (codes ")") ∷ [])) after (P.Event (Edges (e ∷ es)))
  edges-node e es good after =
      let parts = and_parts (is_name e.name) (list_all (λ (e : VEdge). is_name e.name) es) good in
      let rest = further_edges es ++ mark (codes ")") ∷ [] in
      node-as all (ap (λ l. mark (codes "(") ∷ l) (sym (append_assoc (edge_layout e) (further_edges es) (mark (codes ")") ∷ []))))
      (row all 0 Rows.row_edges (Begins.itself refl)
      (mk all (Token.mark (codes "(")) refl none left-paren-on
      (non all (edge-node e parts.0 (front (tokens_of rest) after)) (edges-end es) (further-edges-said es parts.1 after)))
      (ap (λ ys. P.Event (Edges (e ∷ ys))) (all-made as_edge P.Edge (λ x. refl) es (P.Nothing ∷ []) ∙ append-nil es)))

  -- what an `always` waits for and its space, whatever stands behind it
  event-said : (on : VSensitivity) → is_sensitivity on ≡ true → {ps : List Part} {L : List Piece} {after : Option ℕ} {ms : List VPart}
      → Said all 0 0 ps L after ms → Said all 0 0 (Non head.event_control ∷ ps) (sensitivity_layout on ++ L) after (P.Event on ∷ ms)
  event-said Star good {L = L} {after = after} s = record {
    phrase = non-read all
        (by-row all 0 Rows.row_star (Begins.itself refl)
        (symbol-read all (Token.mark (codes "*")) refl none (ended all 0 0 (front (tokens_of L) after))) refl)
        s.phrase;
    on = λ qs e h. spaced-star-on (L ++ qs) (s.on qs e h);
  }
  event-said (Edges []) good s = absurd (false≢true good)
  event-said (Edges (e ∷ es)) good {L = L} {after = after} s =
      said-as all
      (ap (λ l. mark (codes "(") ∷ l) (append_assoc (edges_layout (e ∷ es)) (mark (codes ")") ∷ []) (space ∷ L)
      ∙ sym (append_assoc (edges_layout (e ∷ es)) (mark (codes ")") ∷ space ∷ []) L)))
      (non all (edges-node e es good (front (tokens_of L) after)) (λ qs k. refl) (sp all s))

  pub always-item : (on : VSensitivity) (body : VBranch) → ItemRead (I.Process (Always on body))
  always-item on body good after stop =
      let parts = and_parts (is_sensitivity on) (is_branch body) good in
      let of = fits-and-depth (form_of_branch body).fits (form_of_branch body).depth parts.1 in
      node-as all (ap (λ l. word (codes "always") ∷ space ∷ mark (codes "@") ∷ (sensitivity_layout on ++ l)) (append-nil (branch_layout body 1)))
      (row all 0 Rows.row_always (Begins.itself refl)
      (wd all (Token.word (codes "always")) refl none (λ qs. word-on (codes "always") qs refl) (λ qs e. refl)
      (sp all (mk all (Token.mark (codes "@")) refl none at-mark-on
      (event-said on parts.0
      (non all (branch-read all body of.0 1 0 after (omega (arith, of.1)) none (λ open_end. stop)) (λ qs e. e) (done all 0 0 after)))))) refl)
