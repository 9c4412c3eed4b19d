-- The letters by which a reader tells messages, tags and severities apart, as bytes.
use Rattle.std.specs.Prelude.{ℕ}

abbrev pub letter_C : ℕ
letter_C = 67

abbrev pub letter_D : ℕ
letter_D = 68

abbrev pub letter_E : ℕ
letter_E = 69

abbrev pub letter_F : ℕ
letter_F = 70

abbrev pub letter_I : ℕ
letter_I = 73

abbrev pub letter_K : ℕ
letter_K = 75

abbrev pub letter_P : ℕ
letter_P = 80

abbrev pub letter_R : ℕ
letter_R = 82

abbrev pub letter_S : ℕ
letter_S = 83

abbrev pub letter_T : ℕ
letter_T = 84

abbrev pub letter_U : ℕ
letter_U = 85

abbrev pub letter_W : ℕ
letter_W = 87

abbrev pub letter_Z : ℕ
letter_Z = 90
