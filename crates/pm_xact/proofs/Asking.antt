-- What is told of a text is what it asks for.
use Rattle.std.{proofs.{Common.{◌≡◌, ℕ, inl, inr, true, List, [], ◌∷◌, ◌++◌, map, Option, Some, None, Ok, Err, codes, refl, sym, ap, ◌∙◌, subst, append_assoc, arith}}}
use Rattle.pm_sql.specs.{declared.{stmt.Stmt.{Stmt, TheVariants.{Insert, Update, Delete, Select, Count, Sleep}}, query.SqlFault.SqlFault}, Faults.IsScriptUnlessShort, Laws.OneScript, Token.{Token, Word, Digits, Quoted, Mark, in_lower_case, IsFront, Spells}, Statements.{AreSemicolons, IsQueryText, mark}}
use Rattle.pm_sql.specs.declared.query.SqlFault.TheVariants as faults
use Rattle.pm_xact.{specs.{declared.{access.Access.{Access, TheVariants.{ReadWrite, ReadOnly}}, asked.Asked.{Asked, TheVariants.{Script, Begin, Commit, Rollback}}}, Control.{IsLevel, IsMode, MayBeComma, AreMoreModes, AreModes, IsNoise, IsOpening, IsControl, AreControl, IsControlText, Asks, IsTold}, Laws.{AsksOneThing, BlankRunsNothing}, Reading.{tokens_of, after_opening, control_of}}, proofs.{Lexing.{word_front, mark_front}, Plain.{are_plain, plain_append, spelled_is_read, read_is_spelled}, Grammar.{control_in, control_out, skips}}}

-- ---- what begins or ends a block is words, commas and semicolons

level_plain : (level : List Token) → IsLevel level → are_plain level ≡ true
level_plain level (inl e) = rw e refl
level_plain level (inr (inl e)) = rw e refl
level_plain level (inr (inr (inl e))) = rw e refl
level_plain level (inr (inr (inr e))) = rw e refl

mode_plain : (mode : List Token) (named : Option Access) → IsMode mode named → are_plain mode ≡ true
mode_plain mode (Some ReadWrite) e = rw e refl
mode_plain mode (Some ReadOnly) e = rw e refl
mode_plain mode None (inl (level, is, e)) = rw e (level_plain level is)
mode_plain mode None (inr (inl e)) = rw e refl
mode_plain mode None (inr (inr e)) = rw e refl

comma_plain : (comma : List Token) → MayBeComma comma → are_plain comma ≡ true
comma_plain comma (inl e) = rw e refl
comma_plain comma (inr e) = rw e refl

more_plain : (named : List (Option Access)) (modes : List Token) → AreMoreModes modes named → are_plain modes ≡ true
more_plain [] modes e = rw e refl
more_plain (one ∷ named) modes (comma, first, more, may, is, are, e) =
    rw e (plain_append (comma ++ first) more (plain_append comma first (comma_plain comma may) (mode_plain first one is)) (more_plain named more are))

modes_plain : (named : List (Option Access)) (modes : List Token) → AreModes modes named → are_plain modes ≡ true
modes_plain [] modes e = rw e refl
modes_plain (one ∷ named) modes (first, more, is, are, e) = rw e (plain_append first more (mode_plain first one is) (more_plain named more are))

noise_plain : (noise : List Token) → IsNoise noise → are_plain noise ≡ true
noise_plain noise (inl e) = rw e refl
noise_plain noise (inr (inl e)) = rw e refl
noise_plain noise (inr (inr e)) = rw e refl

opening_plain : (opening : List Token) → IsOpening opening → are_plain opening ≡ true
opening_plain opening (inl e) = rw e refl
opening_plain opening (inr (noise, is, e)) = rw e (noise_plain noise is)

semicolons_plain : (semicolons : List Token) → AreSemicolons semicolons → are_plain semicolons ≡ true
semicolons_plain [] are = refl
semicolons_plain (token ∷ semicolons) (e, are) = rw e (semicolons_plain semicolons are)

statement_plain : (control : List Token) (asked : Asked) → IsControl control asked → are_plain control ≡ true
statement_plain control (Script script) is = absurd is
statement_plain control (Begin access) (opening, modes, named, opens, are, same, e) = rw e (plain_append opening modes (opening_plain opening opens) (modes_plain named modes are))
statement_plain control Commit (noise, is, inl e) = rw e (noise_plain noise is)
statement_plain control Commit (noise, is, inr e) = rw e (noise_plain noise is)
statement_plain control Rollback (noise, is, inl e) = rw e (noise_plain noise is)
statement_plain control Rollback (noise, is, inr e) = rw e (noise_plain noise is)

control_plain : (tokens : List Token) (asked : Asked) → AreControl tokens asked → are_plain tokens ≡ true
control_plain tokens asked (before, control, closing, are, is, ends, e) =
    rw e (plain_append (before ++ control) closing (plain_append before control (semicolons_plain before are) (statement_plain control asked is)) (semicolons_plain closing ends))

-- ---- such a text is told

pub control_told : (text : List ℕ) (asked : Asked) → IsControlText text asked → control_of (tokens_of text) ≡ Some asked
control_told text asked (tokens, spells, are) = ap control_of (spelled_is_read text tokens spells (control_plain (map in_lower_case tokens) asked are)) ∙ control_in (map in_lower_case tokens) asked are

told_control : (text : List ℕ) (asked : Asked) → control_of (tokens_of text) ≡ Some asked → IsControlText text asked
told_control text asked e =
    let are = control_out (tokens_of text) asked e in
    let (tokens, spells, same) = read_is_spelled (tokens_of text) text refl (control_plain (tokens_of text) asked are) in
    (tokens, spells, subst (λ t. AreControl t asked) (sym same) are)

-- ---- and a script isn't told as one

-- whatever stands after this word, it begins or ends no block
abbrev IsOther : List ℕ → Type 0
IsOther letters = (rest : List Token) → control_of (Word letters ∷ rest) ≡ None

abbrev BeginsOther : List Token → Type 0
BeginsOther tokens = (letters : List ℕ) × (rest : List Token) × IsOther letters × (tokens ≡ Word letters ∷ rest)

insert_is_other : IsOther (codes "insert")
unfolding control_of after_opening
insert_is_other rest = refl

update_is_other : IsOther (codes "update")
unfolding control_of after_opening
update_is_other rest = refl

delete_is_other : IsOther (codes "delete")
unfolding control_of after_opening
delete_is_other rest = refl

select_is_other : IsOther (codes "select")
unfolding control_of after_opening
select_is_other rest = refl

-- the text begins with semicolons and this word
word_read : (text : List ℕ) (token : Token) (rest : List ℕ) (letters : List ℕ) → in_lower_case token ≡ Word letters → IsFront text token rest → tokens_of text ≡ Word letters ∷ tokens_of rest
word_read text (Word own) rest letters e is = word_front text own rest is ∙ ap (λ t. t ∷ tokens_of rest) e
word_read text (Digits digits) rest letters e is = cc e
word_read text (Quoted content) rest letters e is = cc e
word_read text (Mark byte) rest letters e is = cc e

mark_read : (text : List ℕ) (token : Token) (rest : List ℕ) → in_lower_case token ≡ mark ";" → IsFront text token rest → tokens_of text ≡ mark ";" ∷ tokens_of rest
mark_read text (Word own) rest e is = cc e
mark_read text (Digits digits) rest e is = cc e
mark_read text (Quoted content) rest e is = cc e
mark_read text (Mark byte) rest e is = mark_front text byte rest is ∙ ap (λ t. t ∷ tokens_of rest) e

other_read : (semicolons tokens : List Token) (text : List ℕ) (letters : List ℕ) (more : List Token) → AreSemicolons semicolons → IsOther letters → Spells text tokens → map in_lower_case tokens ≡ semicolons ++ Word letters ∷ more
    → control_of (tokens_of text) ≡ None
other_read [] [] text letters more are other spells e = cc e
other_read [] (token ∷ tokens) text letters more are other (rest, is, apart, closing) e = let front : in_lower_case token ≡ Word letters = cc e in ap control_of (word_read text token rest letters front is) ∙ other (tokens_of rest)
other_read (first ∷ semicolons) [] text letters more are other spells e = cc e
other_read (first ∷ semicolons) (token ∷ tokens) text letters more (same, are) other (rest, is, apart, closing) e =
    let front : in_lower_case token ≡ first = cc e in
    let others : map in_lower_case tokens ≡ semicolons ++ Word letters ∷ more = cc e in
    ap control_of (mark_read text token rest (front ∙ same) is) ∙ skips (mark ";" ∷ []) (tokens_of rest) (refl, tt) ∙ other_read semicolons tokens rest letters more are other closing others

no_control : control_of [] ≡ None
unfolding control_of after_opening
no_control = refl

semicolons_are_other : (semicolons : List Token) → AreSemicolons semicolons → control_of semicolons ≡ None
semicolons_are_other [] are = no_control
semicolons_are_other (token ∷ semicolons) (e, are) = rw e (skips (mark ";" ∷ []) semicolons (refl, tt) ∙ semicolons_are_other semicolons are)

-- what a text asks for whose first statement begins so
begins_otherwise : (text : List ℕ) (tokens semicolons first more : List Token) → Spells text tokens → AreSemicolons semicolons → map in_lower_case tokens ≡ semicolons ++ first ++ more → BeginsOther first → control_of (tokens_of text) ≡ None
begins_otherwise text tokens semicolons first more spells are e (letters, closing, other, own) =
    other_read semicolons tokens text letters (closing ++ more) are other spells (e ∙ ap (λ t. (semicolons ++ t) ++ more) own ∙ append_assoc semicolons (Word letters ∷ closing) more)

pub script_not_told : (text : List ℕ) (stmts : List Stmt) → IsQueryText text stmts → control_of (tokens_of text) ≡ None
script_not_told text [] (tokens, spells, (are, few)) = ap control_of (spelled_is_read text tokens spells (semicolons_plain (map in_lower_case tokens) are)) ∙ semicolons_are_other (map in_lower_case tokens) are
script_not_told text (Insert key value ∷ stmts) (tokens, spells, ((semicolons, first, more, are, (name, string, columns, int, named, cols, is, short, own), rest, e), few)) = begins_otherwise text tokens semicolons first more spells are e (codes "insert", _, insert_is_other, own)
script_not_told text (Update key value ∷ stmts) (tokens, spells, ((semicolons, first, more, are, (name, string, int, named, short, is, own), rest, e), few)) = begins_otherwise text tokens semicolons first more spells are e (codes "update", _, update_is_other, own)
script_not_told text (Delete key ∷ stmts) (tokens, spells, ((semicolons, first, more, are, (name, int, named, is, own), rest, e), few)) = begins_otherwise text tokens semicolons first more spells are e (codes "delete", _, delete_is_other, own)
script_not_told text (Select key ∷ stmts) (tokens, spells, ((semicolons, first, more, are, (name, cols, condition, order, named, c, is, ordered, own), rest, e), few)) = begins_otherwise text tokens semicolons first more spells are e (codes "select", _, select_is_other, own)
script_not_told text (Count ∷ stmts) (tokens, spells, ((semicolons, first, more, are, (name, named, own), rest, e), few)) = begins_otherwise text tokens semicolons first more spells are e (codes "select", _, select_is_other, own)
script_not_told text (Sleep seconds ∷ stmts) (tokens, spells, ((semicolons, first, more, are, (digits, v, range, own), rest, e), few)) = begins_otherwise text tokens semicolons first more spells are e (codes "select", _, select_is_other, own)

-- ---- what a text asks for

pub asks_control : (text : List ℕ) (asked : Asked) → control_of (tokens_of text) ≡ Some asked → Asks text asked
asks_control text (Script script) e = let (tokens, spells, (before, control, closing, are, is, ends, all)) = told_control text (Script script) e in absurd is
asks_control text (Begin access) e = told_control text (Begin access) e
asks_control text Commit e = told_control text Commit e
asks_control text Rollback e = told_control text Rollback e

-- what is told as beginning or ending a block is all that a text asks for
pub all_of_control : (text : List ℕ) (told asked : Asked) → control_of (tokens_of text) ≡ Some told → Asks text asked → told ≡ asked
all_of_control text told (Script script) e asks = let no : ◌≡◌ {A = Option Asked} (Some told) None = sym e ∙ script_not_told text script asks in cc no
all_of_control text told (Begin access) e asks = let same : Some told ≡ Some (Begin access) = sym e ∙ control_told text (Begin access) asks in cc same
all_of_control text told Commit e asks = let same : Some told ≡ Some Commit = sym e ∙ control_told text Commit asks in cc same
all_of_control text told Rollback e asks = let same : Some told ≡ Some Rollback = sym e ∙ control_told text Rollback asks in cc same

pub is_told : (asked told : Asked) → told ≡ asked → IsTold asked (Ok told)
is_told (Script script) told same = inl (ap (λ a. Ok a) same)
is_told (Begin access) told same = ap (λ a. Ok a) same
is_told Commit told same = ap (λ a. Ok a) same
is_told Rollback told same = ap (λ a. Ok a) same

-- where nothing is told as beginning or ending a block no text asks for that
no_control_asked : (text : List ℕ) (asked : Asked) → control_of (tokens_of text) ≡ None → IsControlText text asked → ⊥
no_control_asked text asked e asks = let no : ◌≡◌ {A = Option Asked} None (Some asked) = sym e ∙ control_told text asked asks in cc no

pub script_told : (text : List ℕ) (script : List Stmt) → control_of (tokens_of text) ≡ None → ((stmts : List Stmt) → IsQueryText text stmts → script ≡ stmts) → (asked : Asked) → Asks text asked → IsTold asked (Ok (Script script))
script_told text script none query (Script stmts) asks = inl (ap (λ s. Ok (Script s)) (query stmts asks))
script_told text script none query (Begin access) asks = absurd (no_control_asked text (Begin access) none asks)
script_told text script none query Commit asks = absurd (no_control_asked text Commit none asks)
script_told text script none query Rollback asks = absurd (no_control_asked text Rollback none asks)

fault_of_script : (fault : SqlFault) (stmts : List Stmt) → IsScriptUnlessShort (Err fault) stmts → IsTold (Script stmts) (Err fault)
fault_of_script (faults.Syntax place) stmts is = absurd is
fault_of_script (faults.Table place) stmts is = absurd is
fault_of_script (faults.Range place) stmts is = absurd is
fault_of_script (faults.TooLong place) stmts is = absurd is
fault_of_script (faults.TooMany place) stmts is = absurd is
fault_of_script faults.NoMemory stmts is = inr refl

pub fault_told : (text : List ℕ) (fault : SqlFault) → control_of (tokens_of text) ≡ None → ((stmts : List Stmt) → IsQueryText text stmts → IsScriptUnlessShort (Err fault) stmts) → (asked : Asked) → Asks text asked → IsTold asked (Err fault)
fault_told text fault none query (Script stmts) asks = fault_of_script fault stmts (query stmts asks)
fault_told text fault none query (Begin access) asks = absurd (no_control_asked text (Begin access) none asks)
fault_told text fault none query Commit asks = absurd (no_control_asked text Commit none asks)
fault_told text fault none query Rollback asks = absurd (no_control_asked text Rollback none asks)

-- ---- laws

pub one_thing : OneScript → AsksOneThing
one_thing one text (Script script) (Script others) first second = ap Script (one text script others first second)
one_thing one text (Script script) (Begin access) first second = sym (all_of_control text (Begin access) (Script script) (control_told text (Begin access) second) first)
one_thing one text (Script script) Commit first second = sym (all_of_control text Commit (Script script) (control_told text Commit second) first)
one_thing one text (Script script) Rollback first second = sym (all_of_control text Rollback (Script script) (control_told text Rollback second) first)
one_thing one text (Begin access) other first second = all_of_control text (Begin access) other (control_told text (Begin access) first) second
one_thing one text Commit other first second = all_of_control text Commit other (control_told text Commit first) second
one_thing one text Rollback other first second = all_of_control text Rollback other (control_told text Rollback first) second

semicolons_in_lower_case : (tokens : List Token) → AreSemicolons tokens → AreSemicolons (map in_lower_case tokens)
semicolons_in_lower_case [] are = tt
semicolons_in_lower_case (token ∷ tokens) (e, are) = (ap in_lower_case e, semicolons_in_lower_case tokens are)

pub blank : BlankRunsNothing
blank text tokens spells are = (tokens, spells, (semicolons_in_lower_case tokens are, λ h. omega arith))
