use Rattle.std.{specs.String.string_bytes}
use Rattle.sha2.proofs.Facts256.{length-sha256}
use Rattle.pm_hmac.proofs.HmacLaws.{byte-sha256}
use Rattle.pm_auth.{specs.Kept.kept_of, proofs.SecretWords.line_is}
use Rattle.pm_auth.proofs.kept.secret_line.Goals as goal

pub returns : goal.returns
returns c = record {
  user_is = record { some = c.requires.some; plain = c.requires.plain };
  whole = record {
    salt = record { whole = c.told-salt; each = c.fits-salt };
    stored = record { whole = length-sha256 _; each = byte-sha256 _ };
    server = record { whole = length-sha256 _; each = byte-sha256 _ };
  };
  word_is =
      line_is c.args.user.now (string_bytes c.in_ok-line.line) (string_bytes c.push_str.new.self) (string_bytes c.put.new.line) c.of-kept.result
      (kept_of c.args.password.now c.args.salt.now) c.in_ok-line.ensures.ok c.in_ok-push_str.ensures.bytes c.in_ok-put.ensures c.of-kept.ensures;
}
