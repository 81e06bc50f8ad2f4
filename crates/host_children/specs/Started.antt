-- What the system is given to start.
use Rattle.std.specs.Prelude.{ℕ, List, [], ◌∷◌, ◌++◌, Option, Some, None, codes, decimal, is_some, if◌then◌else◌, option_map, unwrap_or, string_bytes}
use Rattle.std.specs.Process.{var_after}
use Rattle.host_children.specs.declared.programs.Shell.{Shell}

-- the shell, which the system looks for where this program did not find it
abbrev pub shell_path : Shell → List ℕ
shell_path shell = unwrap_or (option_map string_bytes shell.shell) (codes "sh")

-- the program that is started: what makes its caller the leader of a group, where that was found, and else the shell
abbrev pub program_of : Shell → List ℕ
program_of shell = unwrap_or (option_map string_bytes shell.setsid) (shell_path shell)

-- what the shell is given
abbrev pub script_words : List ℕ → List (List ℕ)
script_words script = codes "-c" ∷ script ∷ []

-- the words behind the program
abbrev pub words_of : Shell → List ℕ → List (List ℕ)
words_of shell script = if is_some shell.setsid then shell_path shell ∷ script_words script else script_words script

-- what a command says of this variable, of two with its name the later one
abbrev pub said_of : List ℕ → List (List ℕ × List ℕ) → Option (Option (List ℕ))
said_of name variables = var_after (λ k. Some k) (λ v. Some v) name None variables

-- the script that ends the group of this leader
abbrev pub end_script : ℕ → List ℕ
end_script leader = codes "kill -s KILL -- -" ++ decimal leader

-- the script that ends this process alone
abbrev pub end_alone_script : ℕ → List ℕ
end_alone_script process = codes "kill -s KILL -- " ++ decimal process
