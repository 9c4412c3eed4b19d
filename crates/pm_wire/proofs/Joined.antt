-- The pieces of a message, put together as the code puts them, are its body.
use Rattle.std.proofs.{Common.{◌≡◌, ℕ, ◌++◌, ◌∷◌, [], List, length, Some, None, codes, ap, ap₂, ◌∙◌, append_assoc}, lemmas.List.append-nil}
use Rattle.pm_wire.specs.{Pieces.{int16, int32, string, counted}, Backend.fields}

-- its zero bytes stand with the letters after them
pub plain_fields : (word code text : List ℕ) → (83 ∷ []) ++ (word ++ ((0 ∷ 86 ∷ []) ++ (word ++ ((0 ∷ 67 ∷ []) ++ (code ++ ((0 ∷ 77 ∷ []) ++ (text ++ ((0 ∷ 0 ∷ []) ++ []))))))))
    ≡ fields word code text None
unfolding fields
plain_fields word code text = simp (append_assoc, append-nil)

pub detailed_fields : (word code text detail : List ℕ) → (83 ∷ []) ++ (word ++ ((0 ∷ 86 ∷ []) ++ (word ++ ((0 ∷ 67 ∷ []) ++ (code ++ ((0 ∷ 77 ∷ []) ++ (text ++ ((0 ∷ 68 ∷ []) ++ (detail ++ ((0 ∷ 0 ∷ []) ++ []))))))))))
    ≡ fields word code text (Some detail)
unfolding fields
detailed_fields word code text detail = simp (append_assoc, append-nil)

pub pair_body : (key value : List ℕ) → (0 ∷ 2 ∷ []) ++ (int32 (length key) ++ (key ++ (int32 (length value) ++ (value ++ [])))) ≡ int16 2 ++ counted key ++ counted value
unfolding int16
pair_body key value = simp (append_assoc, append-nil)

pub one_body : (text : List ℕ) → (0 ∷ 1 ∷ []) ++ (int32 (length text) ++ (text ++ [])) ≡ int16 1 ++ counted text
unfolding int16
one_body text = simp append-nil

-- the fields of an error up to its text
abbrev head : (word code before : List ℕ) → List ℕ
head word code before = (codes "S" ++ string word) ++ (codes "V" ++ string word) ++ (codes "C" ++ string code) ++ codes "M" ++ before

numbered_text : (word code before one between two behind : List ℕ)
    → head word code before ++ (one ++ (between ++ (two ++ (behind ++ 0 ∷ 0 ∷ [])))) ≡ fields word code (before ++ one ++ between ++ two ++ behind) None
unfolding fields
numbered_text word code before one between two behind = simp append_assoc

numbered_detail : (word code text before one behind : List ℕ)
    → head word code text ++ (0 ∷ 68 ∷ before) ++ (one ++ ([] ++ ([] ++ (behind ++ 0 ∷ 0 ∷ [])))) ≡ fields word code text (Some (before ++ one ++ behind))
unfolding fields
numbered_detail word code text before one behind = simp append_assoc

pub version_fields : (major minor one two : List ℕ) → one ≡ major → two ≡ minor
    → head (codes "FATAL") (codes "0A000") (codes "unsupported frontend protocol ") ++ (one ++ (codes "." ++ (two ++ (codes ": server supports 3.0 to 3.0" ++ 0 ∷ 0 ∷ []))))
    ≡ fields (codes "FATAL") (codes "0A000") (codes "unsupported frontend protocol " ++ major ++ codes "." ++ minor ++ codes ": server supports 3.0 to 3.0") None
version_fields major minor one two e f =
    numbered_text (codes "FATAL") (codes "0A000") (codes "unsupported frontend protocol ") one (codes ".") two (codes ": server supports 3.0 to 3.0")
    ∙ ap₂ (λ (x y : List ℕ). fields (codes "FATAL") (codes "0A000") (codes "unsupported frontend protocol " ++ x ++ codes "." ++ y ++ codes ": server supports 3.0 to 3.0") None) e f

pub type_fields : (kind one : List ℕ) → one ≡ kind
    → head (codes "FATAL") (codes "08P01") (codes "invalid frontend message type ") ++ (one ++ ([] ++ ([] ++ (0 ∷ 0 ∷ []))))
    ≡ fields (codes "FATAL") (codes "08P01") (codes "invalid frontend message type " ++ kind) None
type_fields kind one e =
    numbered_text (codes "FATAL") (codes "08P01") (codes "invalid frontend message type ") one [] [] []
    ∙ ap (λ (text : List ℕ). fields (codes "FATAL") (codes "08P01") text None) (append-nil (((codes "invalid frontend message type " ++ one) ++ []) ++ []) ∙ append-nil ((codes "invalid frontend message type " ++ one) ++ []) ∙ append-nil (codes "invalid frontend message type " ++ one) ∙ ap (λ (x : List ℕ). codes "invalid frontend message type " ++ x) e)

pub key_fields : (key one : List ℕ) → one ≡ key
    → head (codes "ERROR") (codes "23505") (codes "duplicate key value violates unique constraint \"kv_pkey\"") ++ (0 ∷ 68 ∷ codes "Key (k)=(") ++ (one ++ ([] ++ ([] ++ (codes ") already exists." ++ 0 ∷ 0 ∷ []))))
    ≡ fields (codes "ERROR") (codes "23505") (codes "duplicate key value violates unique constraint \"kv_pkey\"") (Some (codes "Key (k)=(" ++ key ++ codes ") already exists."))
key_fields key one e =
    numbered_detail (codes "ERROR") (codes "23505") (codes "duplicate key value violates unique constraint \"kv_pkey\"") (codes "Key (k)=(") one (codes ") already exists.")
    ∙ ap (λ (x : List ℕ). fields (codes "ERROR") (codes "23505") (codes "duplicate key value violates unique constraint \"kv_pkey\"") (Some (codes "Key (k)=(" ++ x ++ codes ") already exists."))) e
