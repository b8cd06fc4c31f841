-- What is true of float words: of powers and of every operation. Each module has a folder with its laws. Assumes nothing.
pub mod Powers
pub mod Results
