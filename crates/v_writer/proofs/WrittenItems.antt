-- Written functions, instances, modules and texts: their pieces are read as their tokens, and these are derived and mean them.
use Rattle.std.proofs.Common.{◌≡◌, ℕ, true, ◌&&◌, List, [], ◌∷◌, ◌++◌, map, codes, Option, Some, None, refl, sym, ap, subst, ◌∙◌, append_assoc, arith}
use Rattle.std.specs.List.{list_all}
use Rattle.std.proofs.lemmas.Bool.{and_parts, false≢true}
use Rattle.std.proofs.lemmas.List.{append-nil}
use Rattle.ll_engine.specs.declared.table.Part.{Part}
use Rattle.ll_engine.specs.declared.table.Part.TheVariants.{Term, Non, Maybe, Many}
use Rattle.ll_engine.specs.Grammar.{Begins, IsBegun}
use Rattle.v_tree.specs.declared.expressions.VExpr.{VExpr}
use Rattle.v_tree.specs.declared.items.VConnection.{VConnection}
use Rattle.v_tree.specs.declared.items.VFunction.{VFunction}
use Rattle.v_tree.specs.declared.items.VInstance.{VInstance}
use Rattle.v_tree.specs.declared.items.VItem.{VItem}
use Rattle.v_tree.specs.declared.items.VItem.TheVariants as I
use Rattle.v_tree.specs.declared.items.VLocal.{VLocal}
use Rattle.v_tree.specs.declared.items.VModule.{VModule}
use Rattle.v_tree.specs.declared.items.VProcess.TheVariants.{Assign, Always}
use Rattle.v_tree.specs.declared.items.VSignal.TheVariants.{Input, Output, OutputReg, Wire, Reg}
use Rattle.v_tree.specs.declared.parts.VPart.{VPart}
use Rattle.v_tree.specs.declared.parts.VPart.TheVariants as P
use Rattle.v_tree.specs.declared.statements.VStmt.{VStmt}
use Rattle.v_tree.specs.Heads as head
use Rattle.v_tree.specs.Symbols as terminal
use Rattle.v_tree.specs.Table.{table}
use Rattle.v_tree.specs.Tokens.{Token, is_name}
use Rattle.v_tree.specs.Parts.{all_of, first_of, as_name, as_number, as_input, as_local, as_edge, as_stmt, as_connection, as_item, as_ports, as_range}
use Rattle.v_tree.specs.Parts as Parts
use Rattle.v_tree.specs.Meaning.{given, function_of, instance_of, connection_of, input_of, module_of}
use Rattle.v_tree.specs.Grammatical.{is_decimal, is_perhaps, has_some, fit, is_expr, is_stmt, form_of_stmt, is_local, is_declared, is_connection, is_item, is_module}
use Rattle.v_tree.proofs.Induction.{Each}
use Rattle.v_tree.proofs.Rows as Rows
use Rattle.v_writer.specs.Layout.{Piece, space, line, word, mark, name, tokens_of, perhaps, listed, in_turn, expr_layout, range_layout, declaration_layout, local_layout, lines, stmt_layout, connection_layout, item_layout, port_layout, ports_layout, module_layout, module_line}
use Rattle.v_writer.proofs.Phrases.{Phrase, front, ended, many-read, left-out, tokens-are}
use Rattle.v_writer.proofs.Pieces.{IsRead, line-on, tokens-append, left-paren-on, right-paren-on, semicolon-on, dot-on, name-on, word-on}
use Rattle.v_writer.proofs.Said.{avoids, Ended, Said, Node, done, mk, wd, sp, ln, said-as, node-as, out, non, may, row, begins-more, Item, separated}
use Rattle.v_writer.proofs.WrittenExprs.{all-made, expr-read}
use Rattle.v_writer.proofs.WrittenSignals.{none, fits-and-depth, ItemRead, Anything, input-item, wire-item, output-item, output-reg-item, reg-item, initial-item, assign-item, always-item}
use Rattle.v_writer.proofs.WrittenStmts.{StopsIf, begun-avoids, first-past, all-past, lines-append, range_parts, declared-said, lines-said, Line, locals-said, stmt-read}

module _ (all : List Token) where
  input-means : (l : VLocal) → input_of (P.Nothing ∷ (range_parts l.range ++ P.Name l.name ∷ P.Nothing ∷ [])) ≡ P.Input l
  input-means l = by-range l.range
    where
      by-range : (r : Option ℕ) → input_of (P.Nothing ∷ (range_parts r ++ P.Name l.name ∷ P.Nothing ∷ [])) ≡ P.Input (record { range = r; name = l.name })
      by-range None = refl
      by-range (Some left) = refl

  input-node : (l : VLocal) → is_local l ≡ true → (after : Option ℕ) → Node all head.function_input 0 (local_layout (codes "input") l) after (P.Input l)
  input-node l good after =
      let parts = and_parts (is_perhaps is_decimal l.range) (is_name l.name) good in
      row all 0 Rows.row_function_input (Begins.itself refl)
      (wd all (Token.word (codes "input")) refl none (λ qs. word-on (codes "input") qs refl) (λ qs e. refl)
      (sp all (declared-said all l.range l.name 0 parts.0 parts.1 none (λ qs e. refl)
      (mk all (Token.mark (codes ";")) refl none semicolon-on (done all 0 0 after)))))
      (input-means l)

  input-lines : (ls : List VLocal) → list_all is_local ls ≡ true
      → Each (Line all (local_layout (codes "input")) P.Input head.function_input 0 Anything (λ x M after n. tt) 2) ls
  input-lines [] good = tt
  input-lines (l ∷ ls) good =
      let parts = and_parts (is_local l) (list_all is_local ls) good in
      ((λ after c. input-node l parts.0 after), input-lines ls parts.1)

  abbrev inputs : List VLocal → List (List Piece)
  inputs ls = map (local_layout (codes "input")) ls

  abbrev locals : List VLocal → List (List Piece)
  locals ls = map (local_layout (codes "reg")) ls

  abbrev body_pieces : VStmt → List Piece
  body_pieces s = line 2 ∷ (stmt_layout s 2 ++ line 1 ∷ word (codes "endfunction") ∷ [])

  body-node : (s : VStmt) → is_stmt s ≡ true → Node all head.statement 0 (stmt_layout s 2) (Some terminal.endfunction_word) (P.Stmt s)
  body-node s good =
      let of = fits-and-depth (form_of_stmt s).fits (form_of_stmt s).depth good in
      stmt-read all s of.0 2 0 (Some terminal.endfunction_word) (omega (arith, of.1)) (λ open_end. refl)

  body-said : (s : VStmt) → is_stmt s ≡ true → (after : Option ℕ)
      → Said all 0 0 (Non head.statement ∷ Term terminal.endfunction_word ∷ []) (body_pieces s) after (P.Stmt s ∷ P.Nothing ∷ [])
  body-said s good after =
      ln all 2 (non all (body-node s good) (λ qs e. refl)
      (ln all 1 (wd all (Token.word (codes "endfunction")) refl none (λ qs. word-on (codes "endfunction") qs refl) (λ qs e. e) (done all 0 0 after))))

  -- a body is begun by no variable and no input
  body-front : (qs : List Part) (s : VStmt) → is_stmt s ≡ true → (after : Option ℕ)
      → ((x : Option ℕ) → IsBegun table (Non head.statement ∷ []) x → avoids qs x ≡ true) → avoids qs (front (tokens_of (body_pieces s)) after) ≡ true
  body-front qs s good after apart =
      apart _ (begins-more all [] (line 1 ∷ word (codes "endfunction") ∷ []) after (body-node s good))

  locals-front : (ls : List VLocal) (s : VStmt) → is_stmt s ≡ true → (after : Option ℕ)
      → avoids (Many head.function_input ∷ []) (front (tokens_of (lines 2 (locals ls) ++ body_pieces s)) after) ≡ true
  locals-front [] s good after =
      body-front (Many head.function_input ∷ []) s good after (λ x b. begun-avoids (Non head.statement ∷ []) (Many head.function_input ∷ []) x refl b)
  locals-front (l ∷ ls) s good after = refl

  inputs-said : (i : VLocal) (is ls : List VLocal) (s : VStmt) → list_all is_local (i ∷ is) ≡ true → list_all is_local ls ≡ true → is_stmt s ≡ true → (after : Option ℕ)
      → Said all 0 0 (Non head.function_input ∷ Many head.function_input ∷ Many head.local_declaration ∷ Non head.statement ∷ Term terminal.endfunction_word ∷ [])
      (lines 2 (inputs (i ∷ is)) ++ (lines 2 (locals ls) ++ body_pieces s)) after
      (P.Input i ∷ (map P.Input is ++ (map P.Local ls ++ P.Stmt s ∷ P.Nothing ∷ [])))
  inputs-said i is ls s good variables body after =
      let parts = and_parts (is_local i) (list_all is_local is) good in
      let rest = lines 2 (locals ls) ++ body_pieces s in
      said-as all (ap (λ l. line 2 ∷ l) (sym (append_assoc (local_layout (codes "input") i) (lines 2 (inputs is)) rest)))
      (ln all 2 (non all (input-node i parts.0 (front (tokens_of (lines 2 (inputs is) ++ rest)) after))
      (lines-append 2 (inputs is) rest (lines-append 2 (locals ls) (body_pieces s) (λ qs e. refl)))
      (lines-said all (local_layout (codes "input")) P.Input head.function_input 0 Anything (λ x M a n. tt) 2 is (input-lines is parts.1) tt (locals-front ls s body after)
      (lines-append 2 (locals ls) (body_pieces s) (λ qs e. refl))
      (locals-said all ls variables 0 2 none
      (body-front (Many head.local_declaration ∷ []) s body after (λ x b. begun-avoids (Non head.statement ∷ []) (Many head.local_declaration ∷ []) x refl b))
      (λ qs e. refl) (body-said s body after)))))

  function-means : (range : Option ℕ) (n : List ℕ) (i : VLocal) (is ls : List VLocal) (s : VStmt)
      → function_of (P.Nothing ∷ (range_parts range ++ P.Name n ∷ P.Nothing ∷ P.Input i ∷ (map P.Input is ++ (map P.Local ls ++ P.Stmt s ∷ P.Nothing ∷ []))))
      ≡ P.Item (I.Function (record { range = range; name = n; inputs = i ∷ is; locals = ls; body = s }))
  function-means range n i is ls s = by-range range
    where
      stmt-there : first_of as_stmt (map P.Input is ++ (map P.Local ls ++ P.Stmt s ∷ P.Nothing ∷ [])) ≡ Some s
      stmt-there =
          first-past as_stmt P.Input (λ x. refl) is (map P.Local ls ++ P.Stmt s ∷ P.Nothing ∷ [])
          ∙ first-past as_stmt P.Local (λ x. refl) ls (P.Stmt s ∷ P.Nothing ∷ [])

      inputs-there : all_of as_input (map P.Input is ++ (map P.Local ls ++ P.Stmt s ∷ P.Nothing ∷ [])) ≡ is
      inputs-there =
          all-made as_input P.Input (λ x. refl) is (map P.Local ls ++ P.Stmt s ∷ P.Nothing ∷ [])
          ∙ ap (λ ys. is ++ ys) (all-past as_input P.Local (λ x. refl) ls (P.Stmt s ∷ P.Nothing ∷ [])) ∙ append-nil is

      locals-there : all_of as_local (map P.Input is ++ (map P.Local ls ++ P.Stmt s ∷ P.Nothing ∷ [])) ≡ ls
      locals-there =
          all-past as_local P.Input (λ x. refl) is (map P.Local ls ++ P.Stmt s ∷ P.Nothing ∷ [])
          ∙ all-made as_local P.Local (λ x. refl) ls (P.Stmt s ∷ P.Nothing ∷ []) ∙ append-nil ls

      no-range : first_of as_range (map P.Input is ++ (map P.Local ls ++ P.Stmt s ∷ P.Nothing ∷ [])) ≡ None
      no-range =
          first-past as_range P.Input (λ x. refl) is (map P.Local ls ++ P.Stmt s ∷ P.Nothing ∷ [])
          ∙ first-past as_range P.Local (λ x. refl) ls (P.Stmt s ∷ P.Nothing ∷ [])

      made : (r q : Option ℕ) (os : Option VStmt) (xs ys : List VLocal) → q ≡ r → os ≡ Some s → xs ≡ is → ys ≡ ls
          → given os (λ b. P.Item (I.Function (record { range = q; name = n; inputs = i ∷ xs; locals = ys; body = b })))
          ≡ P.Item (I.Function (record { range = r; name = n; inputs = i ∷ is; locals = ls; body = s }))
      made r q os xs ys d e f g =
          (λ j. given (e j) (λ b. P.Item (I.Function (record { range = d j; name = n; inputs = i ∷ f j; locals = g j; body = b }))))

      by-range : (r : Option ℕ) → function_of (P.Nothing ∷ (range_parts r ++ P.Name n ∷ P.Nothing ∷ P.Input i ∷ (map P.Input is ++ (map P.Local ls ++ P.Stmt s ∷ P.Nothing ∷ []))))
          ≡ P.Item (I.Function (record { range = r; name = n; inputs = i ∷ is; locals = ls; body = s }))
      by-range None = made None _ _ _ _ no-range stmt-there inputs-there locals-there
      by-range (Some left) = made (Some left) (Some left) _ _ _ refl stmt-there inputs-there locals-there

  function-node : (range : Option ℕ) (n : List ℕ) (is ls : List VLocal) (s : VStmt) → is_perhaps is_decimal range ≡ true → is_name n ≡ true → has_some is ≡ true
      → list_all is_local is ≡ true → list_all is_local ls ≡ true → is_stmt s ≡ true → (after : Option ℕ)
      → Node all head.module_item 0 (word (codes "function") ∷ space ∷ (perhaps range_layout range ++ name n ∷ mark (codes ";") ∷ (lines 2 (inputs is) ++ (lines 2 (locals ls) ++ body_pieces s)))) after
      (P.Item (I.Function (record { range = range; name = n; inputs = is; locals = ls; body = s })))
  function-node range n [] ls s bounds named some good variables body after = absurd (false≢true some)
  function-node range n (i ∷ is) ls s bounds named some good variables body after =
      row all 0 Rows.row_function (Begins.itself refl)
      (wd all (Token.word (codes "function")) refl none (λ qs. word-on (codes "function") qs refl) (λ qs e. refl)
      (sp all (declared-said all range n 0 bounds named none (λ qs e. refl)
      (mk all (Token.mark (codes ";")) refl none semicolon-on (inputs-said i is ls s good variables body after)))))
      (function-means range n i is ls s)

  function-laid : (range : Option ℕ) (n : List ℕ) (is ls : List VLocal) (s : VStmt)
      → word (codes "function") ∷ space ∷ (perhaps range_layout range ++ name n ∷ mark (codes ";") ∷ (lines 2 (inputs is) ++ (lines 2 (locals ls) ++ body_pieces s)))
      ≡ (declaration_layout (codes "function") range n [] ++ (lines 2 (inputs is) ++ lines 2 (locals ls))) ++ body_pieces s
  function-laid range n is ls s =
      let lower = lines 2 (inputs is) ++ lines 2 (locals ls) in
      ap (λ l. word (codes "function") ∷ space ∷ (perhaps range_layout range ++ name n ∷ mark (codes ";") ∷ l)) (sym (append_assoc (lines 2 (inputs is)) (lines 2 (locals ls)) (body_pieces s)))
      ∙ ap (λ l. word (codes "function") ∷ space ∷ l) (sym (append_assoc (perhaps range_layout range) (name n ∷ mark (codes ";") ∷ []) (lower ++ body_pieces s)))
      ∙ sym (append_assoc (declaration_layout (codes "function") range n []) lower (body_pieces s))

  function-item : (f : VFunction) → ItemRead all (I.Function f)
  function-item f good after stop =
      let four = and_parts (is_declared f.range f.name && has_some f.inputs && list_all is_local f.inputs && list_all is_local f.locals) (is_stmt f.body) good in
      let three = and_parts (is_declared f.range f.name && has_some f.inputs && list_all is_local f.inputs) (list_all is_local f.locals) four.0 in
      let two = and_parts (is_declared f.range f.name && has_some f.inputs) (list_all is_local f.inputs) three.0 in
      let one = and_parts (is_declared f.range f.name) (has_some f.inputs) two.0 in
      let parts = and_parts (is_perhaps is_decimal f.range) (is_name f.name) one.0 in
      node-as all (function-laid f.range f.name f.inputs f.locals f.body)
      (function-node f.range f.name f.inputs f.locals f.body parts.0 parts.1 one.1 two.1 three.1 four.1 after)

  abbrev value_parts : Option VExpr → List VPart
  value_parts None = []
  value_parts (Some x) = P.Expr x ∷ []

  value-said : (value : Option VExpr) → is_perhaps is_expr value ≡ true → (after : Option ℕ)
      → Said all 0 0 (Maybe head.expression ∷ Term terminal.right_paren ∷ []) (perhaps expr_layout value ++ mark (codes ")") ∷ []) after (value_parts value ++ P.Nothing ∷ [])
  value-said None good after = out all refl refl (mk all (Token.mark (codes ")")) refl none right-paren-on (done all 0 0 after))
  value-said (Some x) good after =
      let of = fits-and-depth (fit x).fits (fit x).depth good in
      may all (expr-read all x of.0 0 (Some terminal.right_paren) (omega (arith, of.1)) (refl, (refl, refl))) (λ qs e. refl)
      (mk all (Token.mark (codes ")")) refl none right-paren-on (done all 0 0 after))

  connection-means : (n : List ℕ) (value : Option VExpr)
      → connection_of (P.Nothing ∷ P.Name n ∷ P.Nothing ∷ (value_parts value ++ P.Nothing ∷ [])) ≡ P.Connection (record { port = n; value = value })
  connection-means n None = refl
  connection-means n (Some x) = refl

  connection-node : (c : VConnection) → is_connection c ≡ true → (after : Option ℕ) → Node all head.connection 0 (connection_layout c) after (P.Connection c)
  connection-node c good after =
      let parts = and_parts (is_name c.port) (is_perhaps is_expr c.value) good in
      row all 0 Rows.row_connection (Begins.itself refl)
      (mk all (Token.mark (codes ".")) refl none dot-on
      (wd all (Token.name c.port) refl none (λ qs. name-on c.port qs parts.0) (λ qs e. refl)
      (mk all (Token.mark (codes "(")) refl none left-paren-on (value-said c.value parts.1 after))))
      (connection-means c.port c.value)

  connection-items : (cs : List VConnection) → list_all is_connection cs ≡ true → Each (Item all connection_layout P.Connection (Non head.connection) Anything 0) cs
  connection-items [] good = tt
  connection-items (c ∷ cs) good =
      let parts = and_parts (is_connection c) (list_all is_connection cs) good in
      ((λ turn ps M after ms stop ended_by s. non all (connection-node c parts.0 (front (tokens_of M) after)) ended_by s), connection-items cs parts.1)

  connections-node : (c : VConnection) (cs : List VConnection) → list_all is_connection (c ∷ cs) ≡ true
      → Node all head.connections 0 (listed (map connection_layout (c ∷ cs))) (Some terminal.right_paren) (P.Connections (c ∷ cs))
  connections-node c cs good =
      node-as all (append-nil (listed (map connection_layout (c ∷ cs))))
      (row all 0 Rows.row_connections (Begins.inside refl Rows.row_connection (Begins.itself refl))
      (separated all connection_layout P.Connection (Non head.connection) Anything tt head.next_connection 33 Rows.row_next_connection (λ x. refl) 0 none
      c cs (connection-items (c ∷ cs) good) {M = []} {after = Some terminal.right_paren} tt refl (λ qs e. e) (done all 0 0 (Some terminal.right_paren)))
      (ap (λ ys. P.Connections (c ∷ ys)) (all-made as_connection P.Connection (λ x. refl) cs [] ∙ append-nil cs)))

  abbrev connections_parts : List VConnection → List VPart
  connections_parts [] = []
  connections_parts (c ∷ cs) = P.Connections (c ∷ cs) ∷ []

  connections-said : (cs : List VConnection) → list_all is_connection cs ≡ true → (after : Option ℕ)
      → Said all 0 0 (Maybe head.connections ∷ Term terminal.right_paren ∷ Term terminal.semicolon ∷ []) (listed (map connection_layout cs) ++ mark (codes ")") ∷ mark (codes ";") ∷ []) after
      (connections_parts cs ++ P.Nothing ∷ P.Nothing ∷ [])
  connections-said [] good after =
      out all refl refl (mk all (Token.mark (codes ")")) refl none right-paren-on (mk all (Token.mark (codes ";")) refl none semicolon-on (done all 0 0 after)))
  connections-said (c ∷ cs) good after =
      may all (connections-node c cs good) (λ qs e. refl)
      (mk all (Token.mark (codes ")")) refl none right-paren-on (mk all (Token.mark (codes ";")) refl none semicolon-on (done all 0 0 after)))

  instance-means : (m n : List ℕ) (cs : List VConnection)
      → instance_of (P.Name m ∷ P.Name n ∷ P.Nothing ∷ (connections_parts cs ++ P.Nothing ∷ P.Nothing ∷ [])) ≡ P.Item (I.Instance (record { of = m; name = n; connections = cs }))
  instance-means m n [] = refl
  instance-means m n (c ∷ cs) = refl

  instance-item : (i : VInstance) → ItemRead all (I.Instance i)
  instance-item i good after stop =
      let both = and_parts (is_name i.of && is_name i.name) (list_all is_connection i.connections) good in
      let parts = and_parts (is_name i.of) (is_name i.name) both.0 in
      row all 0 Rows.row_instance (Begins.itself refl)
      (wd all (Token.name i.of) refl none (λ qs. name-on i.of qs parts.0) (λ qs e. refl)
      (sp all (wd all (Token.name i.name) refl none (λ qs. name-on i.name qs parts.1) (λ qs e. refl)
      (sp all (mk all (Token.mark (codes "(")) refl none left-paren-on (connections-said i.connections both.1 after))))))
      (instance-means i.of i.name i.connections)

  item-read : (i : VItem) → ItemRead all i
  item-read (I.Signal (Input range n)) = input-item all range n
  item-read (I.Signal (Output range n)) = output-item all range n
  item-read (I.Signal (OutputReg range n initial)) = output-reg-item all range n initial
  item-read (I.Signal (Wire range n)) = wire-item all range n
  item-read (I.Signal (Reg range n rest)) = reg-item all range n rest
  item-read (I.Initial i) = initial-item all i
  item-read (I.Process (Assign target value)) = assign-item all target value
  item-read (I.Process (Always on body)) = always-item all on body
  item-read (I.Function f) = function-item f
  item-read (I.Instance i) = instance-item i

  item-start : (x : VItem) (M : List Piece) (after : Option ℕ) → Node all head.module_item 0 (item_layout x) (front (tokens_of M) after) (P.Item x)
      → StopsIf (front (tokens_of (item_layout x ++ M)) after)
  item-start x M after n = begun-avoids (Non head.module_item ∷ []) (Maybe head.else_branch ∷ []) _ refl (begins-more all [] M after n)

  item-lines : (is : List VItem) → list_all is_item is ≡ true → Each (Line all item_layout P.Item head.module_item 0 StopsIf item-start 1) is
  item-lines [] good = tt
  item-lines (i ∷ is) good =
      let parts = and_parts (is_item i) (list_all is_item is) good in
      ((λ after stop. item-read i parts.0 after stop), item-lines is parts.1)

  port-items : (ns : List (List ℕ)) → list_all is_name ns ≡ true → Each (Item all port_layout P.Name (Term terminal.name) Anything 0) ns
  port-items [] good = tt
  port-items (n ∷ ns) good =
      let parts = and_parts (is_name n) (list_all is_name ns) good in
      ((λ turn ps M after ms stop ended_by s. wd all (Token.name n) refl none (λ qs. name-on n qs parts.0) ended_by s), port-items ns parts.1)

  ports-node : (n : List ℕ) (ns : List (List ℕ)) → list_all is_name (n ∷ ns) ≡ true → (after : Option ℕ)
      → Node all head.list_of_ports 0 (mark (codes "(") ∷ (listed (map port_layout (n ∷ ns)) ++ mark (codes ")") ∷ [])) after (P.Ports (n ∷ ns))
  ports-node n ns good after =
      row all 0 Rows.row_ports (Begins.itself refl)
      (mk all (Token.mark (codes "(")) refl none left-paren-on
      (separated all port_layout P.Name (Term terminal.name) Anything tt head.next_name 3 Rows.row_next_name (λ x. refl) 0 none
      n ns (port-items (n ∷ ns) good) tt refl (λ qs e. refl)
      (mk all (Token.mark (codes ")")) refl none right-paren-on (done all 0 0 after))))
      (ap (λ ys. P.Ports (n ∷ ys)) (all-made as_name P.Name (λ x. refl) ns (P.Nothing ∷ []) ∙ append-nil ns))

  abbrev ports_parts : List (List ℕ) → List VPart
  ports_parts [] = []
  ports_parts (n ∷ ns) = P.Ports (n ∷ ns) ∷ []

  ports-said : (ns : List (List ℕ)) → list_all is_name ns ≡ true → {M : List Piece} {after : Option ℕ} {ms : List VPart} {ps : List Part}
      → Said all 0 0 (Term terminal.semicolon ∷ ps) (mark (codes ";") ∷ M) after ms
      → Said all 0 0 (Maybe head.list_of_ports ∷ Term terminal.semicolon ∷ ps) (ports_layout ns ++ mark (codes ";") ∷ M) after (ports_parts ns ++ ms)
  ports-said [] good s = out all refl refl s
  ports-said (n ∷ ns) good s = sp all (may all (ports-node n ns good (Some terminal.semicolon)) (λ qs e. refl) s)

  ports-end : (ns : List (List ℕ)) (M : List Piece) → Ended (ports_layout ns ++ mark (codes ";") ∷ M)
  ports-end [] M qs e = refl
  ports-end (n ∷ ns) M qs e = refl

  module-means : (n : List ℕ) (ns : List (List ℕ)) (is : List VItem)
      → module_of (P.Nothing ∷ P.Name n ∷ (ports_parts ns ++ P.Nothing ∷ (map P.Item is ++ P.Nothing ∷ []))) ≡ P.Module (record { name = n; ports = ns; items = is })
  module-means n [] is =
      (λ i. P.Module (record {
        name = n;
        ports = Parts.listed (first-past as_ports P.Item (λ x. refl) is (P.Nothing ∷ []) i);
        items = (all-made as_item P.Item (λ x. refl) is (P.Nothing ∷ []) ∙ append-nil is) i;
      }))
  module-means n (p ∷ ns) is =
      ap (λ ys. P.Module (record { name = n; ports = p ∷ ns; items = ys })) (all-made as_item P.Item (λ x. refl) is (P.Nothing ∷ []) ∙ append-nil is)

  pub module-node : (m : VModule) → is_module m ≡ true → (after : Option ℕ) → Node all head.module_declaration 0 (module_layout m) after (P.Module m)
  module-node m good after =
      let both = and_parts (is_name m.name && list_all is_name m.ports) (list_all is_item m.items) good in
      let parts = and_parts (is_name m.name) (list_all is_name m.ports) both.0 in
      let end = line 0 ∷ word (codes "endmodule") ∷ [] in
      let rest = lines 1 (map item_layout m.items) ++ end in
      node-as all (ap (λ l. word (codes "module") ∷ space ∷ name m.name ∷ l) (sym (append_assoc (ports_layout m.ports) (mark (codes ";") ∷ []) rest)))
      (row all 0 Rows.row_module (Begins.itself refl)
      (wd all (Token.word (codes "module")) refl none (λ qs. word-on (codes "module") qs refl) (λ qs e. refl)
      (sp all (wd all (Token.name m.name) refl none (λ qs. name-on m.name qs parts.0) (ports-end m.ports rest)
      (ports-said m.ports parts.1
      (mk all (Token.mark (codes ";")) refl none semicolon-on
      (lines-said all item_layout P.Item head.module_item 0 StopsIf item-start 1 m.items (item-lines m.items both.1) refl refl (λ qs e. refl)
      (ln all 0 (wd all (Token.word (codes "endmodule")) refl none (λ qs. word-on (codes "endmodule") qs refl) (λ qs e. e) (done all 0 0 after)))))))))
      (module-means m.name m.ports m.items))

  -- the modules of a text
  pub modules-read : (ms : List VModule) → list_all is_module ms ≡ true
      → Phrase all 0 0 (Many head.module_declaration ∷ []) (tokens_of (in_turn (map module_line ms))) None (map P.Module ms)
  modules-read [] good = left-out all refl (λ b. b) (ended all 0 0 None)
  modules-read (m ∷ ms) good =
      let parts = and_parts (is_module m) (list_all is_module ms) good in
      let rest = in_turn (map module_line ms) in
      tokens-are all
      (ap (λ ts. ts ++ tokens_of rest) (sym (append-nil (tokens_of (module_layout m))) ∙ sym (tokens-append (module_layout m) (line 0 ∷ []))) ∙ sym (tokens-append (module_line m) rest))
      (many-read all (module-node m parts.0 (front (tokens_of rest) None)).derived (modules-read ms parts.1))

  pub modules-on : (ms : List VModule) → list_all is_module ms ≡ true → IsRead (in_turn (map module_line ms))
  modules-on [] good escaped = refl
  modules-on (m ∷ ms) good escaped =
      let parts = and_parts (is_module m) (list_all is_module ms) good in
      let rest = in_turn (map module_line ms) in
      subst IsRead (sym (append_assoc (module_layout m) (line 0 ∷ []) rest))
      ((module-node m parts.0 None).on (line 0 ∷ rest) refl (line-on 0 rest (modules-on ms parts.1))) escaped
