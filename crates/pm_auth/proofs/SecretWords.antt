-- How a word says a secret.
use Rattle.std.{proofs.{Common.{◌≡◌, ◌≢◌, ◌∙◌, ℕ, ◌+◌, List, [], ◌∷◌, ◌++◌, length, replicate, refl, sym, ap, append_assoc, length-append, arith}, lemmas.{Bool.eqb-true, List.{append_cancel_left, length-replicate}}}, specs.Prelude.{Option, None, Some, Bool, true, false, codes, not, nat_eq, IsTrue, IfSome, IfNone, is_some, IfOk, OnOk, Result, Ok, Err}}
use denote.Ref.{Bor}
use Rattle.base64.{specs.{Engines.standard, Rfc4648.{encode_symbols, padding_len, unpadded_len}}, proofs.RoundTrip.length-encode_symbols}
use Rattle.pm_auth.{specs.{Base64.{AreBytes, IsNoBase64, base64_of}, Cuts.{IsCut, IsCutAt, IsFreeOf}, Kept.{IsNoKept, IsWhole, SaysKept, kept_text}, Secrets.{IsNoSecret, IsUser, SaysSecret}, declared.{kept.Kept.Kept, secrets.Secret.Secret, fault.WordNo.{WordNo, TheVariants.{Form, NoMemory}}}}, proofs.Cutting.{cut_at_once, cut_once, no_cut}}

-- ---- lengths

encoded_length : (bytes : List ℕ) → length (base64_of bytes) ≡ unpadded_len (length bytes) + padding_len (length bytes)
encoded_length bytes =
    length-append (encode_symbols standard.encode_table bytes) (replicate (padding_len (length bytes)) 61)
    ∙ ap (λ n. n + length (replicate {A = ℕ} (padding_len (length bytes)) 61)) (length-encode_symbols standard.encode_table bytes)
    ∙ ap (λ n. unpadded_len (length bytes) + n) (length-replicate (padding_len (length bytes)) 61)

pub salt_length : (bytes : List ℕ) → AreBytes 16 bytes → length (base64_of bytes) ≡ 24
salt_length bytes are = encoded_length bytes ∙ ap (λ n. unpadded_len n + padding_len n) are.whole

pub digest_length : (bytes : List ℕ) → AreBytes 32 bytes → length (base64_of bytes) ≡ 44
digest_length bytes are = encoded_length bytes ∙ ap (λ n. unpadded_len n + padding_len n) are.whole

-- ---- what is kept

front : List ℕ
front = codes "SCRAM-SHA-256$4096:"

abbrev pub stored_text : Kept → List ℕ
stored_text kept = base64_of kept.stored ++ 58 ∷ base64_of kept.server

abbrev pub keys_text : Kept → List ℕ
keys_text kept = base64_of kept.salt ++ 36 ∷ stored_text kept

regroup : (f a d b c e : List ℕ) → f ++ a ++ d ++ b ++ c ++ e ≡ f ++ (a ++ (d ++ (b ++ (c ++ e))))
regroup f a d b c e = simp append_assoc

pub kept_parts : (kept : Kept) → kept_text kept ≡ codes "SCRAM-SHA-256$4096:" ++ keys_text kept
kept_parts kept = regroup (codes "SCRAM-SHA-256$4096:") (base64_of kept.salt) (codes "$") (base64_of kept.stored) (codes ":") (base64_of kept.server)

-- the keys after the front
pub keys_are : (text keys : List ℕ) (kept : Kept) → text ≡ codes "SCRAM-SHA-256$4096:" ++ keys → SaysKept text kept → keys ≡ keys_text kept
keys_are text keys kept is says =
    append_cancel_left (codes "SCRAM-SHA-256$4096:") keys (keys_text kept) (sym is ∙ says.text_is ∙ kept_parts kept)

pub salt_cut : (text keys : List ℕ) (kept : Kept) → text ≡ codes "SCRAM-SHA-256$4096:" ++ keys → SaysKept text kept
    → IsCutAt 24 36 keys (base64_of kept.salt) (stored_text kept)
salt_cut text keys kept is says = record { front_is = salt_length kept.salt says.whole.salt; whole_is = keys_are text keys kept is says }

pub salt_is : (text keys salt rest : List ℕ) (kept : Kept) → text ≡ codes "SCRAM-SHA-256$4096:" ++ keys → IsCutAt 24 36 keys salt rest → SaysKept text kept
    → (salt ≡ base64_of kept.salt) × (rest ≡ stored_text kept)
salt_is text keys salt rest kept is cut says =
    cut_at_once 24 36 keys salt rest (base64_of kept.salt) (stored_text kept) cut (salt_cut text keys kept is says)

pub stored_cut : (text keys salt rest : List ℕ) (kept : Kept) → text ≡ codes "SCRAM-SHA-256$4096:" ++ keys → IsCutAt 24 36 keys salt rest → SaysKept text kept
    → IsCutAt 44 58 rest (base64_of kept.stored) (base64_of kept.server)
stored_cut text keys salt rest kept is cut says = record {
  front_is = digest_length kept.stored says.whole.stored;
  whole_is = (salt_is text keys salt rest kept is cut says).1;
}

pub stored_is : (text keys salt rest stored server : List ℕ) (kept : Kept) → text ≡ codes "SCRAM-SHA-256$4096:" ++ keys → IsCutAt 24 36 keys salt rest
    → IsCutAt 44 58 rest stored server → SaysKept text kept → (stored ≡ base64_of kept.stored) × (server ≡ base64_of kept.server)
stored_is text keys salt rest stored server kept is cut next says =
    cut_at_once 44 58 rest stored server (base64_of kept.stored) (base64_of kept.server) next (stored_cut text keys salt rest kept is cut says)

-- a part that is none leaves nothing kept
pub no_salt : (text keys salt rest : List ℕ) (no : WordNo) → text ≡ codes "SCRAM-SHA-256$4096:" ++ keys → IsCutAt 24 36 keys salt rest
    → IsNoBase64 16 salt no → IsNoKept text no
no_salt text keys salt rest Form is cut none =
    λ kept says. none kept.salt (record { are_bytes = says.whole.salt; text_is = (salt_is text keys salt rest kept is cut says).0 })
no_salt text keys salt rest NoMemory is cut none = tt

pub no_stored : (text keys salt rest stored server : List ℕ) (no : WordNo) → text ≡ codes "SCRAM-SHA-256$4096:" ++ keys → IsCutAt 24 36 keys salt rest
    → IsCutAt 44 58 rest stored server → IsNoBase64 32 stored no → IsNoKept text no
no_stored text keys salt rest stored server Form is cut next none =
    λ kept says. none kept.stored
    (record { are_bytes = says.whole.stored; text_is = (stored_is text keys salt rest stored server kept is cut next says).0 })
no_stored text keys salt rest stored server NoMemory is cut next none = tt

pub no_server : (text keys salt rest stored server : List ℕ) (no : WordNo) → text ≡ codes "SCRAM-SHA-256$4096:" ++ keys → IsCutAt 24 36 keys salt rest
    → IsCutAt 44 58 rest stored server → IsNoBase64 32 server no → IsNoKept text no
no_server text keys salt rest stored server Form is cut next none =
    λ kept says. none kept.server
    (record { are_bytes = says.whole.server; text_is = (stored_is text keys salt rest stored server kept is cut next says).1 })
no_server text keys salt rest stored server NoMemory is cut next none = tt

pub kept_said : (text keys rest : List ℕ) (kept : Kept) → text ≡ codes "SCRAM-SHA-256$4096:" ++ keys → IsCutAt 24 36 keys (base64_of kept.salt) rest
    → IsCutAt 44 58 rest (base64_of kept.stored) (base64_of kept.server) → IsWhole kept → SaysKept text kept
kept_said text keys rest kept is cut next whole = record {
  whole = whole;
  text_is = is ∙ ap (λ k. codes "SCRAM-SHA-256$4096:" ++ k) (cut.whole_is ∙ ap (λ r. base64_of kept.salt ++ 36 ∷ r) next.whole_is) ∙ sym (kept_parts kept);
}

-- what was put after a line
seven : (line f a d b c e : List ℕ) → ((((((line ++ f) ++ a) ++ d) ++ b) ++ c) ++ e) ≡ line ++ (f ++ a ++ d ++ b ++ c ++ e)
seven line f a d b c e = simp append_assoc

pub put_text : {A E : Type 0} (r : Result A E) (line one two three four five six f a d b c e : List ℕ) → one ≡ line ++ f → two ≡ one ++ a
    → three ≡ two ++ d → four ≡ three ++ b → five ≡ four ++ c → OnOk r (six ≡ five ++ e) → IfOk r (λ _. six ≡ line ++ (f ++ a ++ d ++ b ++ c ++ e))
put_text (Err x) line one two three four five six f a d b c e h1 h2 h3 h4 h5 h6 = tt
put_text (Ok x) line one two three four five six f a d b c e h1 h2 h3 h4 h5 h6 =
    h6 ∙ ap (λ w. w ++ e) (h5 ∙ ap (λ w. w ++ c) (h4 ∙ ap (λ w. w ++ b) (h3 ∙ ap (λ w. w ++ d) (h2 ∙ ap (λ w. w ++ a) h1))))
    ∙ seven line f a d b c e

-- ---- the user

pub says_cut : (word : List ℕ) (secret : Secret) → SaysSecret word secret → IsCut 61 word secret.user (kept_text secret.kept)
says_cut word secret says = record { front_is = says.user_is.plain; whole_is = says.word_is }

pub user_is : (word user kept : List ℕ) (secret : Secret) → IsCut 61 word user kept → SaysSecret word secret
    → (user ≡ secret.user) × SaysKept kept secret.kept
user_is word user kept secret cut says =
    let parts = cut_once 61 word user kept secret.user (kept_text secret.kept) cut (says_cut word secret says) in
    (parts.0, record { whole = says.whole; text_is = parts.1 })

pub no_secret : (word user kept : List ℕ) (no : WordNo) → IsCut 61 word user kept → IsNoKept kept no → IsNoSecret word no
no_secret word user kept Form cut none = λ secret says. none secret.kept (user_is word user kept secret cut says).1
no_secret word user kept NoMemory cut none = tt

pub empty_by : (bytes : List ℕ) (b : Bool) → b ≡ nat_eq (length bytes) 0 → b ≡ true → bytes ≡ []
empty_by [] b is holds = refl
empty_by (x ∷ xs) b is holds =
    let none : length (x ∷ xs) ≡ 0 = eqb-true (length (x ∷ xs)) 0 (sym is ∙ holds) in absurd (omega (arith, none))

pub filled_by : (bytes : List ℕ) (b : Bool) → b ≡ nat_eq (length bytes) 0 → b ≡ false → bytes ≢ []
filled_by [] true is holds = absurd cc
filled_by [] false is holds = absurd cc
filled_by (x ∷ xs) b is holds = λ e. cc

pub plain_user : (name : List ℕ) (r : Option (Bor (List ℕ) × Bor (List ℕ))) (b : Bool) → name ≢ []
    → IfSome r (λ x. IsCut 61 name x.0.now x.1.now) → IfNone r (IsFreeOf 61 name) → is_some r ≡ not b
    → (IsTrue b → IsUser name) × (IsUser name → IsTrue b)
plain_user name None true some cut free is = (λ holds. record { some = some; plain = free }, λ user. refl)
plain_user name None false some cut free is = absurd cc
plain_user name (Some x) true some cut free is = absurd cc
plain_user name (Some x) false some cut free is =
    (λ holds. let untrue : false ≡ true = holds in absurd (cc), λ user. absurd (no_cut 61 name x.0.now x.1.now user.plain cut))

-- the word of a secret
pub line_is : (user line pushed word : List ℕ) (kept said : Kept) → line ≡ user → pushed ≡ line ++ codes "=" → word ≡ pushed ++ kept_text kept
    → kept ≡ said → word ≡ user ++ 61 ∷ kept_text said
line_is user line pushed word kept said one two three four =
    three ∙ ap (λ w. w ++ kept_text kept) (two ∙ ap (λ w. w ++ codes "=") one) ∙ append_assoc user (codes "=") (kept_text kept)
    ∙ ap (λ (k : Kept). user ++ 61 ∷ kept_text k) four
