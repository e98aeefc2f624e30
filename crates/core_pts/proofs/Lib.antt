mod OpenCopies
