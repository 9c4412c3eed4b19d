-- What is told of settings, each by itself.
use Rattle.std.proofs.{Common.{◌≡◌, ◌≢◌, ℕ, ◌*◌, ◌<◌, ◌≤◌, true, List, length, set, Option, Some, None, IfSome, unwrap_or, sum_by, refl, ap, ◌∙◌, subst, length-set, get_or-set_same, get_or-set_other, arith}, lemmas.{Bool.{and_parts, leb-true}, List.{Elements.{All-set, All-replicate}, Sums.sum_by-le}, Option.same_Some}}
use Rattle.pm_settings.specs.{declared.setting.Setting.{Setting, TheVariants.{ApplicationName, ClientMinMessages, DateStyle, ExtraFloatDigits, IntervalStyle, SearchPath, TimeZone}}, Names.{max_setting_bytes, row_of, is_short, starts_iso, is_taken}, Told.{Told, IsTold, place_of, told_at, value_of, with_at, with_told, nothing_told, bytes_of}, Laws.EachByItself}

pub nothing_is_told : IsTold nothing_told
nothing_is_told = record { places = refl; short = All-replicate (λ value. bytes_of value ≤ max_setting_bytes) 7 None (omega arith) }

pub telling : (told : Told) (place : ℕ) (value : Option (List ℕ)) → bytes_of value ≤ max_setting_bytes → IsTold told → IsTold (set told place value)
telling told place value small is = record {
  places = length-set told place value ∙ is.places;
  short = All-set (λ value. bytes_of value ≤ max_setting_bytes) told place value small is.short;
}

pub told_small : (told : Told) → IsTold told → sum_by bytes_of told ≤ 7 * max_setting_bytes
told_small told is = subst (λ n. sum_by bytes_of told ≤ n * max_setting_bytes) is.places (sum_by-le bytes_of max_setting_bytes told is.short)

place_small : (setting : Setting) (place : ℕ) → place_of setting ≡ Some place → place < 7
place_small ApplicationName place e = let n = same_Some 0 place e in omega (arith, n)
place_small ClientMinMessages place e = let n = same_Some 1 place e in omega (arith, n)
place_small DateStyle place e = let n = same_Some 2 place e in omega (arith, n)
place_small ExtraFloatDigits place e = let n = same_Some 3 place e in omega (arith, n)
place_small IntervalStyle place e = let n = same_Some 4 place e in omega (arith, n)
place_small SearchPath place e = let n = same_Some 5 place e in omega (arith, n)
place_small TimeZone place e = let n = same_Some 6 place e in omega (arith, n)
place_small _ place e = cc e

-- a value that is taken is short, where it is kept as it is told
pub taken_small : (setting : Setting) (value : List ℕ) → is_taken setting value ≡ true → IfSome (place_of setting) (λ _. length value ≤ max_setting_bytes)
unfolding is_taken
taken_small ApplicationName value e = leb-true (length value) max_setting_bytes e
taken_small ClientMinMessages value e = leb-true (length value) max_setting_bytes e
taken_small DateStyle value e = leb-true (length value) max_setting_bytes (and_parts (is_short value) (starts_iso value) e).0
taken_small ExtraFloatDigits value e = leb-true (length value) max_setting_bytes e
taken_small IntervalStyle value e = leb-true (length value) max_setting_bytes e
taken_small SearchPath value e = leb-true (length value) max_setting_bytes e
taken_small TimeZone value e = leb-true (length value) max_setting_bytes e
taken_small _ value e = tt

own : (told : Told) (setting : Setting) (place : ℕ) (value : List ℕ) → IsTold told → place_of setting ≡ Some place → value_of (with_told told setting (Some value)) setting ≡ value
own told setting place value is e =
    let small = place_small setting place e in
    let within : place < length told = omega (arith, small, is.places) in
    ap (λ p. unwrap_or (told_at (with_at told p (Some value)) p) (row_of setting).value) e
    ∙ ap (λ v. unwrap_or v (row_of setting).value) (get_or-set_same told place (Some value) None within)

others : (told : Told) (setting other : Setting) (place : ℕ) (value : List ℕ) → place_of setting ≡ Some place → place_of other ≢ Some place → value_of (with_told told setting (Some value)) other ≡ value_of told other
others told setting other place value e apart =
    ap (λ p. unwrap_or (told_at (with_at told p (Some value)) (place_of other)) (row_of other).value) e
    ∙ ap (λ v. unwrap_or v (row_of other).value) (by_place (place_of other) apart) where
      by_place : (at : Option ℕ) → at ≢ Some place → told_at (set told place (Some value)) at ≡ told_at told at
      by_place None apart = refl
      by_place (Some there) apart = get_or-set_other told place there (Some value) None (λ same. apart (ap Some same))

pub each_by_itself_law : EachByItself
each_by_itself_law told setting place value is e = (own told setting place value is e, λ other apart. others told setting other place value e apart)
