use Rattle.std.specs.{Prelude.codes, String.string_bytes}
use Rattle.pm_auth.{specs.Base64.base64_of, proofs.SecretWords.put_text}
use Rattle.pm_auth.proofs.kept.Kept.put.Goals as goal

pub returns : goal.returns
returns c =
    put_text c.encode_string-3.result (string_bytes c.args.line.now) (string_bytes c.push_str.new.self) (string_bytes c.encode_string.new.output)
    (string_bytes c.push_str-2.new.self) (string_bytes c.encode_string-2.new.output) (string_bytes c.push_str-3.new.self)
    (string_bytes c.encode_string-3.new.output) (codes "SCRAM-SHA-256$4096:") (base64_of c.args.self.now.salt) (codes "$")
    (base64_of c.args.self.now.stored) (codes ":") (base64_of c.args.self.now.server) c.in_ok-push_str.ensures.bytes
    c.in_ok-encode_string.ensures.ok c.in_ok-push_str-2.ensures.bytes c.in_ok-encode_string-2.ensures.ok c.in_ok-push_str-3.ensures.bytes
    c.encode_string-3.ensures.ok
