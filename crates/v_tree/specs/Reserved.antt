-- The reserved words: those of IEEE 1800-2017 annex B, which no name of a source or of a target text is.
use Rattle.std.specs.Prelude.{ℕ, Bool, false, ◌==◌, nat_lt, List, [], ◌∷◌, codes, if◌then◌else◌}
use Rattle.std.specs.List.{slice_split, list_any}
use Rattle.std.specs.Str.{bytes_eq}

-- the words of a text, which spaces separate
abbrev pub words_of : List ℕ → List (List ℕ)
words_of text = slice_split (λ c. c == 32) text

-- those that begin with one of the letters `abcdef`
unfoldable pub words_to_f : ℕ → List ℕ
words_to_f c =
    if c == 97 then codes "accept_on alias always always_comb always_ff always_latch and assert assign assume automatic"
    else (if c == 98 then codes "before begin bind bins binsof bit break buf bufif0 bufif1 byte"
    else (if c == 99 then codes "case casex casez cell chandle checker class clocking cmos config const constraint context continue cover covergroup coverpoint cross"
    else (if c == 100 then codes "deassign default defparam design disable dist do"
    else (if c == 101 then codes "edge else end endcase endchecker endclass endclocking endconfig endfunction endgenerate endgroup endinterface endmodule endpackage endprimitive endprogram endproperty endspecify endsequence endtable endtask enum event eventually expect export extends extern"
    else (if c == 102 then codes "final first_match for force foreach forever fork forkjoin function"
    else [])))))

-- those that begin with one of the letters `ghijlm`
unfoldable pub words_to_m : ℕ → List ℕ
words_to_m c =
    if c == 103 then codes "generate genvar global"
    else (if c == 104 then codes "highz0 highz1"
    else (if c == 105 then codes "if iff ifnone ignore_bins illegal_bins implements implies import incdir include initial inout input inside instance int integer interconnect interface intersect"
    else (if c == 106 then codes "join join_any join_none"
    else (if c == 108 then codes "large let liblist library local localparam logic longint"
    else (if c == 109 then codes "macromodule matches medium modport module"
    else [])))))

-- those that begin with one of the letters `noprs`
unfoldable pub words_to_s : ℕ → List ℕ
words_to_s c =
    if c == 110 then codes "nand negedge nettype new nexttime nmos nor noshowcancelled not notif0 notif1 null"
    else (if c == 111 then codes "or output"
    else (if c == 112 then codes "package packed parameter pmos posedge primitive priority program property protected pull0 pull1 pulldown pullup pulsestyle_ondetect pulsestyle_onevent pure"
    else (if c == 114 then codes "rand randc randcase randsequence rcmos real realtime ref reg reject_on release repeat restrict return rnmos rpmos rtran rtranif0 rtranif1"
    else (if c == 115 then codes "s_always s_eventually s_nexttime s_until s_until_with scalared sequence shortint shortreal showcancelled signed small soft solve specify specparam static string strong strong0 strong1 struct super supply0 supply1 sync_accept_on sync_reject_on"
    else []))))

-- those that begin with one of the letters `tuvwx`
unfoldable pub words_to_x : ℕ → List ℕ
words_to_x c =
    if c == 116 then codes "table tagged task this throughout time timeprecision timeunit tran tranif0 tranif1 tri tri0 tri1 triand trior trireg type typedef"
    else (if c == 117 then codes "union unique unique0 unsigned until until_with untyped use uwire"
    else (if c == 118 then codes "var vectored virtual void"
    else (if c == 119 then codes "wait wait_order wand weak weak0 weak1 while wildcard wire with within wor"
    else (if c == 120 then codes "xnor xor"
    else []))))

-- the reserved words that begin with a byte, with one space between
unfoldable pub words_with : ℕ → List ℕ
words_with c =
    if nat_lt c 103 then words_to_f c
    else (if nat_lt c 110 then words_to_m c
    else (if nat_lt c 116 then words_to_s c
    else words_to_x c))

unfoldable pub is_reserved : List ℕ → Bool
is_reserved [] = false
is_reserved (c ∷ cs) = list_any (λ word. bytes_eq word (c ∷ cs)) (words_of (words_with c))
