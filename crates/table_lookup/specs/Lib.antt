-- What the functions of the table answer, where the layers below do not name it.
pub mod Good
pub mod Below
